-- Each cut of a file is whole; what all of them share.
use Prim.Native.Nat.{ℕ, zero, suc, ◌<◌}
use mathlib.Core.Path.{◌≡◌, sym, ◌∙◌, ap, subst}
use mathlib.Core.List.{List, [], ◌∷◌, map}
use native.Mathlib.Omega.{arith}
use native.Mathlib.Nat.{not-suc-le-zero, le_of_suc-le-suc}
use lib.ListN.{length, get_or, length-map, get_or-map}
use Rattle.sections.specs.Verdict.{default_cut}
use Rattle.sections.specs.Accepted.{Format, AcceptedBy, section_at}
use Rattle.sections.specs.Parts.{time_of}
use Rattle.sections.specs.declared.Cut.{Cut}
use Rattle.files.specs.File.{Parts, parts_at, Whole, Cuts, none, new_3, same_3, first_four}
use Rattle.sections.proofs.Alike.{same_time}
use Rattle.files.proofs.Leading.{one_is}
use Rattle.files.proofs.ToFile.{file_of}

pub data Each (f : Format) (first : List ℕ) : List Parts → Type 0 where
  of_none : Each f first []
  of_one : {p : Parts} {ps : List Parts} → Whole f first p → Each f first ps → Each f first (p ∷ ps)

pub each_of : (f : Format) (first s3 : List ℕ) (ps : List Parts) (rest : List ℕ) → Cuts f first s3 ps rest → Each f first ps
each_of f first s3 ps rest none = of_none
each_of f first s3 ps rest (new_3 {rest = r} {p = p} {ps = qs} w c) = of_one w (each_of f first p.three qs r c)
each_of f first s3 ps rest (same_3 {rest = r} {p = p} {ps = qs} w c) = of_one w (each_of f first p.three qs r c)

each_at : (f : Format) (first : List ℕ) (d : Parts) (ps : List Parts) → Each f first ps → (i : ℕ) → i < length ps → Whole f first (get_or ps i d)
each_at f first d ps of_none i lt = absurd (not-suc-le-zero lt)
each_at f first d ps (of_one w e) zero lt = w
each_at f first d ps (of_one {ps = qs} w e) (suc i) lt = each_at f first d qs e i (le_of_suc-le-suc lt)

-- cut i of an accepted file, by its octets, beside the section 4 of the first cut
pub whole_at : (f : Format) (s : List ℕ) (cs : List Cut) → AcceptedBy f s cs → (i : ℕ) → i < length cs
    → Whole f (first_four (map (parts_at s) cs)) (parts_at s (get_or cs i default_cut))
whole_at f s cs a i lt =
    let ps = map (parts_at s) cs in
    let first = first_four ps in
    let led = (file_of f s cs a).leading in
    let n = length-map cs (parts_at s) in
    subst (Whole f first) (get_or-map (parts_at s) cs i default_cut)
    (each_at f first (parts_at s default_cut) ps (each_of f first [] ps led.cuts led.cuts_are) i (omega arith))

-- what every section 4 has as the first cut's has it, any two of the file have alike
pub four_alike : {X : Type 0} (f : Format) (Q : List ℕ → X) → ((first s3 s4 : List ℕ) → f.Four first s3 s4 → Q s4 ≡ Q first)
    → (s : List ℕ) (cs : List Cut) → AcceptedBy f s cs → (i j : ℕ) → i < length cs → j < length cs
    → Q (parts_at s (get_or cs i default_cut)).four ≡ Q (parts_at s (get_or cs j default_cut)).four
four_alike f Q as_first s cs a i j lt lu =
    as_first _ _ _ (whole_at f s cs a i lt).four_is ∙ sym (as_first _ _ _ (whole_at f s cs a j lu).four_is)

-- octets with the section 1 of an accepted file have its time
pub time_alike : (f : Format) (s t : List ℕ) (cs : List Cut) → AcceptedBy f s cs → section_at s 16 ≡ section_at t 16 → time_of s ≡ time_of t
time_alike f s t cs a e =
    let led = (file_of f s cs a).leading in
    let long : length (section_at s 16) ≡ 21 = ap length (one_is led) ∙ led.one_long in
    same_time s t (omega arith) e
