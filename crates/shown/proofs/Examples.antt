-- A text that is cut, by computation; the other worked cases are in `tests/cases.py`. Assumes
-- nothing.
use mathlib.Core.Path.{◌≡◌, refl}
use mathlib.Core.List.{[], ◌∷◌}
use Rattle.lines.specs.Written.{put, stored}
use Rattle.shown.specs.Text.{bytes, fitted}

a_text_is_cut_where_the_buffer_ends :
    fitted (1 ∷ 2 ∷ 3 ∷ 4 ∷ []) 2 (bytes "ABC") ≡ put 4 (1 ∷ 2 ∷ 65 ∷ 66 ∷ [])
unfolding fitted stored
a_text_is_cut_where_the_buffer_ends = refl
