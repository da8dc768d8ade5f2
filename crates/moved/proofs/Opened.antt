-- Open tells the product and the site of any cut, since all have those of the first, and the time of section 1.
use Prim.Native.Nat.{ℕ, ◌<◌}
use mathlib.Core.Path.{◌≡◌, refl, sym, ◌∙◌, ap}
use mathlib.Core.List.{List}
use native.Mathlib.Omega.{arith}
use lib.ListN.{length, get_or}
use Rattle.rules.specs.Fields.{parameter_at}
use Rattle.base_format.specs.Fields.{site_at}
use Rattle.sections.specs.Accepted.{section_at}
use Rattle.sections.specs.Verdict.{default_cut}
use Rattle.sections.specs.declared.Cut.{Cut}
use Rattle.base_format.specs.Parts.{product_of}
use Rattle.base_format.specs.Checks.{base_checks}
use Rattle.base_format.specs.Accepted.{base_format, Accepted}
use Rattle.base_format.proofs.Exact.{exact}
use Rattle.base_format.proofs.First.{as_first}
use Rattle.polar.specs.Opening.{summary_of, open_answer}
use Rattle.calls.proofs.ByVerdict.{file_accepted}
use Rattle.files.specs.File.{Parts, parts_at}
use Rattle.files.proofs.Each.{four_alike, time_alike}
use Rattle.moved.specs.ByOctets.{product_by}
use Rattle.moved.proofs.ByOctets.{by_octets}
use Rattle.std.specs.Prelude.{Ok}

-- an accepted file with the section 1 of another, whose first cut stood in that other one, opens as that other one does, but for the number of cuts
pub same_open : (s t : List ℕ) (cs ds : List Cut) → Accepted s cs → Accepted t ds → (j : ℕ) → 0 < length ds → j < length cs
    → parts_at t (get_or ds 0 default_cut) ≡ parts_at s (get_or cs j default_cut) → section_at t 16 ≡ section_at s 16
    → open_answer t ≡ Ok (summary_of s (length ds) (get_or cs 0 default_cut))
unfolding open_answer
same_open s t cs ds a b j some lt e one =
    let m = by_octets t ds b 0 some in
    let zero = by_octets s cs a 0 (omega arith) in
    let product =
    m.product ∙ ap product_by e
    ∙ four_alike base_format (λ o. product_of (parameter_at o 0)) (λ x y z k. ap product_of (as_first x y z k).0) s cs a j 0 lt (omega arith) ∙ sym zero.product in
    let site =
    m.site ∙ ap (λ (p : Parts). site_at p.four 0) e
    ∙ four_alike base_format (λ o. site_at o 0) (λ x y z k. (as_first x y z k).1) s cs a j 0 lt (omega arith) ∙ sym zero.site in
    let time = time_alike base_format t s ds b one in
    file_accepted base_checks base_format exact t _ _ ds b
    ∙ (λ i. Ok (record { product = product i; time = time i; site = site i; cuts = length ds }))

-- two files with the same section 1, the same first cut and as many cuts open alike
pub opened_alike : (s t : List ℕ) (cs ds : List Cut) → Accepted s cs → Accepted t ds → 0 < length cs → length ds ≡ length cs
    → parts_at t (get_or ds 0 default_cut) ≡ parts_at s (get_or cs 0 default_cut) → section_at t 16 ≡ section_at s 16 → open_answer t ≡ open_answer s
opened_alike s t cs ds a b some count e one =
    same_open s t cs ds a b 0 (omega arith) some e one
    ∙ ap (λ (n : ℕ). Ok (summary_of s n (get_or cs 0 default_cut))) count
    ∙ sym (same_open s s cs cs a a 0 some some refl refl)
