-- Known bytes that are read, or written, one part after the other. Assumes nothing.
use mathlib.Core.Path.{refl, sym, ap, ◌∙◌}
use Prim.Native.Nat.{ℕ}
use mathlib.Core.List.{List, [], ◌++◌, append_assoc, append-nil}
use Rattle.std.specs.Prelude.{Option, Some, None}
use Rattle.std.specs.Io.KnownBytes.{Appends, Consumes}

pub consumes_nothing : (given : Option (List ℕ)) → Consumes given given []
consumes_nothing None = tt
consumes_nothing (Some bytes) = refl

pub consumes_more : (given given' given'' : Option (List ℕ)) (some more : List ℕ)
    → Consumes given given' some → Consumes given' given'' more
    → Consumes given given'' (some ++ more)
consumes_more None given' given'' some more first second = tt
consumes_more (Some bytes) None given'' some more first second = absurd first
consumes_more (Some bytes) (Some rest) None some more first second = absurd second
consumes_more (Some bytes) (Some rest) (Some last) some more first second =
    first ∙ ap (λ (any : List ℕ). some ++ any) second ∙ sym (append_assoc some more last)

pub appends_nothing : (held : Option (List ℕ)) → Appends held held []
appends_nothing None = tt
appends_nothing (Some bytes) = sym (append-nil bytes)

pub appends_more : (held held' held'' : Option (List ℕ)) (some more : List ℕ)
    → Appends held held' some → Appends held' held'' more → Appends held held'' (some ++ more)
appends_more None held' held'' some more first second = tt
appends_more (Some bytes) None held'' some more first second = absurd first
appends_more (Some bytes) (Some then) None some more first second = absurd second
appends_more (Some bytes) (Some then) (Some last) some more first second =
    second ∙ ap (λ (any : List ℕ). any ++ more) first ∙ append_assoc bytes some more
