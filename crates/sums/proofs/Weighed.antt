-- What a block's octets add, each with its weight: a shift of the row takes one factor B from every weight but the least, so that sums of rows give it all.
use Prim.Native.Nat.{ℕ, zero, suc, ◌+◌, ◌-◌, ◌*◌, ◌≤◌, ◌<◌}
use mathlib.Core.Path.{◌≡◌, refl, sym, ap, ◌∙◌}
use mathlib.Core.Bool.{cond}
use mathlib.Core.List.{List}
use native.Mathlib.Nat.{zero-mul}
use native.Mathlib.Numerals.{add-one}
use native.Mathlib.Omega.{arith}
use lib.ListN.{length, take, drop, get_or}
use lib.Dec.{leb}
use borrow.Author.Tests.{le-leb, lt-leb}
use Rattle.octets.proofs.Orders.{by_order}
use Rattle.lent.proofs.Lent.{drop_here}
use Rattle.runs.specs.Run.{base, levels}
use Rattle.runs.proofs.Bins.{rest, rest_open, rest_digit}
use Rattle.sums.specs.Inner.{total, alone, behind, Laid, Shifted}
use Rattle.sums.proofs.Fronts.{rest_cut, weight_past, rest_any, front_rest}
use Rattle.sums.proofs.Totals.{total_none, total_suc, total_same, total_both, total_ends}

-- what a row has at its places
abbrev pub held : List ℕ → ℕ → ℕ
held row j = get_or row j 0

module _ (v : ℕ) (s : List ℕ) where
  -- the weight that a digit has at a place
  unfoldable pub weigh : ℕ → ℕ
  weigh zero = 1
  weigh (suc j) = cond (leb (get_or s j 0) v) 1 (weigh j * base v)

  weigh_first : weigh 0 ≡ 1
  unfolding weigh
  weigh_first = refl

  weigh_level : (j : ℕ) → get_or s j 0 ≤ v → weigh (suc j) ≡ 1
  unfolding weigh
  weigh_level j h = simp (le-leb (get_or s j 0) v h)

  weigh_digit : (j : ℕ) → v < get_or s j 0 → weigh (suc j) ≡ weigh j * base v
  unfolding weigh
  weigh_digit j h = simp (lt-leb (get_or s j 0) v h)

  -- a row, each place with its weight
  abbrev pub weighed : (ℕ → ℕ) → ℕ → ℕ
  weighed x = total (λ j. x j * weigh j)

  -- how many of the first octets are levels; the digits
  abbrev pub opened : ℕ → ℕ
  opened = total (λ j. cond (leb (get_or s j 0) v) 1 0)

  abbrev pub digits : ℕ → ℕ
  digits j = get_or s j 0 - v - 1

  behind_level : (j d : ℕ) → get_or s j 0 ≤ v → behind v (get_or s j 0) d ≡ 0
  behind_level j d h = simp (le-leb (get_or s j 0) v h)

  behind_digit : (j d : ℕ) → v < get_or s j 0 → behind v (get_or s j 0) d ≡ d
  behind_digit j d h = simp (lt-leb (get_or s j 0) v h)

  -- the octets up to a place, and the rest of them
  pub upto : (m : ℕ) → m ≤ length s → rest v 1 s ≡ opened m + weighed digits m + rest v (weigh m) (drop m s)
  upto zero h = omega (arith, total_none (λ j. cond (leb (get_or s j 0) v) 1 0), total_none (λ j. digits j * weigh j), ap (λ (w : ℕ). rest v w s) weigh_first)
  upto (suc m) h =
      let o : ℕ = get_or s m 0 in
      let t : List ℕ = drop (m + 1) s in
      let here = ap (λ (l : List ℕ). rest v (weigh m) l) (drop_here s m (omega arith)) in
      let levels-more = total_suc (λ j. cond (leb (get_or s j 0) v) 1 0) m in
      let digits_more = total_suc (λ j. digits j * weigh j) m in
      let on = ap (λ (k : ℕ). rest v (weigh (suc m)) (drop k s)) (add-one m) in
      upto m (omega arith)
      ∙ by_order o v
      (λ low.
      let none : digits m ≡ 0 = omega arith in
      let one : cond {A = ℕ} (leb o v) 1 0 ≡ 1 = simp (le-leb o v low) in
      omega (arith, here, levels-more, digits_more, on, one, ap (λ (x : ℕ). x * weigh m) none, zero-mul (weigh m), rest_open v (weigh m) o t low, ap (λ (w : ℕ). rest v w t) (weigh_level m low)))
      (λ high.
      let no : cond {A = ℕ} (leb o v) 1 0 ≡ 0 = simp (lt-leb o v high) in
      omega (arith, here, levels-more, digits_more, on, no, rest_digit v (weigh m) o t high, ap (λ (w : ℕ). rest v w t) (weigh_digit m high)))

  -- ---- a row and the same row shifted
  module _ (x y : ℕ → ℕ) where
    abbrev pub Below : ℕ → Type 0
    Below m = (j : ℕ) → j < m → y j ≡ behind v (get_or s j 0) (x (j + 1))

    one_more : (m : ℕ) → y m ≡ behind v (get_or s m 0) (x (m + 1)) → x (suc m) * weigh (suc m) + y m ≡ x (suc m) + base v * (y m * weigh m)
    one_more m is =
        let next = ap (λ (k : ℕ). x k) (add-one m) in
        by_order (get_or s m 0) v
        (λ low.
        let none : y m ≡ 0 = is ∙ behind_level m (x (m + 1)) low in
        omega (arith, ap (λ (w : ℕ). x (suc m) * w) (weigh_level m low), none, ap (λ (d : ℕ). base v * (d * weigh m)) none))
        (λ high.
        let same : y m ≡ x (suc m) = is ∙ behind_digit m (x (m + 1)) high ∙ next in
        omega (arith, ap (λ (w : ℕ). x (suc m) * w) (weigh_digit m high), same, ap (λ (d : ℕ). base v * (d * weigh m)) same))

    shift_weighed : (m : ℕ) → Below m → weighed x (suc m) + total y m ≡ total x (suc m) + base v * weighed y m
    shift_weighed zero below =
        omega (arith, total_suc (λ j. x j * weigh j) 0, total_suc x 0, total_none (λ j. x j * weigh j), total_none x, total_none y, ap (λ (w : ℕ). x 0 * w) weigh_first, ap (λ (t : ℕ). base v * t) (total_none (λ j. y j * weigh j)))
    shift_weighed (suc m) below =
        omega (arith, total_suc (λ j. x j * weigh j) (suc m), total_suc x (suc m), total_suc y m, ap (λ (t : ℕ). base v * t) (total_suc (λ j. y j * weigh j) m), shift_weighed m (λ j h. below j (omega arith)), one_more m (below m (omega arith)))

    shift_less : (m : ℕ) → Below m → total y m ≤ total x (suc m)
    shift_less zero below = omega (arith, total_none y)
    shift_less (suc m) below =
        let next = ap (λ (k : ℕ). x k) (add-one m) in
        let is = below m (omega arith) in
        by_order (get_or s m 0) v
        (λ low. omega (arith, total_suc y m, total_suc x (suc m), shift_less m (λ j h. below j (omega arith)), is, behind_level m (x (m + 1)) low))
        (λ high. omega (arith, total_suc y m, total_suc x (suc m), shift_less m (λ j h. below j (omega arith)), is, behind_digit m (x (m + 1)) high, next))

  -- what the octets before a level give
  pub front_bins : (e : ℕ) → get_or s 0 0 ≤ v → e < length s → get_or s e 0 ≤ v → length (levels v (take e s)) ≡ opened e + weighed digits e
  front_bins e first inside level =
      omega (arith, upto e (omega arith), rest_any v s e inside level (weigh e), rest_cut v 1 s e, rest_any v s e inside level (weight_past v 1 (take e s)), front_rest v s e first)

  -- ---- of a row beside the octets
  -- where the digits of the first e octets are laid
  module _ (e : ℕ) (row : List ℕ) (few : e < 256) (laid : Laid v s e row) where
    same : (f : ℕ → ℕ → ℕ) → ((j : ℕ) → f j 0 ≡ 0) → total (λ j. f j (held row j)) 256 ≡ total (λ j. f j (digits j)) e
    same f none =
        let all : 256 ≡ e + (256 - e) = omega arith in
        ap (λ (m : ℕ). total (λ j. f j (held row j)) m) all
        ∙ total_ends (λ j. f j (held row j)) e (256 - e) (λ j h g. ap (λ (x : ℕ). f j x) (laid.1 j h (omega arith)) ∙ none j)
        ∙ total_same (λ j. f j (held row j)) (λ j. f j (digits j)) e (λ j h. ap (λ (x : ℕ). f j x) (laid.0 j h))

    pub laid_weighed : weighed (held row) 256 ≡ weighed digits e
    laid_weighed = same (λ j x. x * weigh j) (λ j. zero-mul (weigh j))

    alone_is : (j : ℕ) → alone v (get_or s j 0) ≡ cond (leb (get_or s j 0) v) 1 0 + digits j
    alone_is j =
        by_order (get_or s j 0) v
        (λ low. simp (le-leb (get_or s j 0) v low) (omega arith))
        (λ high. simp (lt-leb (get_or s j 0) v high) (omega arith))

    pub laid_total : total (λ j. alone v (get_or s j 0)) e ≡ opened e + total (held row) 256
    laid_total =
        total_same (λ j. alone v (get_or s j 0)) (λ j. cond (leb (get_or s j 0) v) 1 0 + digits j) e (λ j h. alone_is j)
        ∙ total_both (λ j. cond (leb (get_or s j 0) v) 1 0) digits e
        ∙ ap (λ (t : ℕ). opened e + t) (sym (same (λ j x. x) (λ j. refl)))

  -- a row and the same row shifted
  module _ (old row : List ℕ) (ends : get_or old 256 0 ≡ 0) (shifted : Shifted v s old row) where
    pub shifted_weighed : weighed (held old) 256 + total (held row) 256 ≡ total (held old) 256 + base v * weighed (held row) 256
    shifted_weighed =
        omega (arith, shift_weighed (held old) (held row) 256 shifted.0, total_suc (λ j. held old j * weigh j) 256, total_suc (held old) 256, ends, ap (λ (x : ℕ). x * weigh 256) ends, zero-mul (weigh 256))

    pub shifted_less : total (held row) 256 ≤ total (held old) 256
    shifted_less = omega (arith, shift_less (held old) (held row) 256 shifted.0, total_suc (held old) 256, ends)
