-- FORMAT.md, "Sections": this format's own fields that other sections and the calls go by, each by the place of its section.
use Rattle.std.specs.Prelude.{ℕ, List}
use Rattle.rules.specs.Rules.{field}

-- section 4: the site number
unfoldable pub site_at : List ℕ → ℕ → ℕ
site_at s at = field s at 29 2

-- section 5: V, and M as read
unfoldable pub greatest_at : List ℕ → ℕ → ℕ
greatest_at s at = field s at 13 2

unfoldable pub count_at : List ℕ → ℕ → ℕ
count_at s at = field s at 15 2
