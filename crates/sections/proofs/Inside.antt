-- The place of a refusal lies in the file, or is its end: each check names a place of the section at hand, or its end, and that section lies in the file.
use Prim.Native.Nat.{ℕ, ◌+◌, ◌≤◌}
use mathlib.Core.Path.{◌≡◌}
use mathlib.Core.List.{List, [], ◌∷◌}
use mathlib.Core.Bool.{Bool, true, false, cond}
use native.Mathlib.Omega.{arith}
use lib.Dec.{eqb}
use lib.ListN.{length}
use Rattle.rules.specs.Fields.{length_at, number_at}
use Rattle.sections.specs.Refusal.{refuse}
use Rattle.sections.specs.Checks.{Check, check, FormatChecks, framed, room_for_cut, closes, section_checks, checks_at}
use Rattle.sections.specs.declared.Context.{Context}
use Rattle.sections.specs.Verdict.{refused, end_of, verdict_by}
use Rattle.sections.specs.Refused.{FirstFails, this, later, RefusedBy, size, head, section}
use Rattle.sections.specs.declared.Refusal.{Refusal}
use Rattle.sections.specs.declared.Why.TheVariants.{Frame, CutCount}
use Rattle.sections.proofs.Framed.{framed_is}
use Rattle.sections.proofs.Sections.{reached}
use Rattle.sections.proofs.Exact.{refused_only}

-- each of these checks names a place up to an end
abbrev pub AllUpto : ℕ → List Check → Type 0
AllUpto end [] = Unit {0}
AllUpto end (check r ok ∷ cs) = (r.place ≤ end) × AllUpto end cs

pub either : (b : Bool) (end : ℕ) (cs ds : List Check) → AllUpto end cs → AllUpto end ds → AllUpto end (cond b cs ds)
either true end cs ds p q = p
either false end cs ds p q = q

fails_upto : {r : Refusal} {cs : List Check} (end : ℕ) → AllUpto end cs → FirstFails r cs → r.place ≤ end
fails_upto end a (this e) = a.0
fails_upto end a (later e f) = fails_upto end a.1 f

-- the first of them, and the others where it holds
fails_first : {r q : Refusal} {ok : Bool} {cs : List Check} {end : ℕ} → q.place ≤ end → (ok ≡ true → FirstFails r cs → r.place ≤ end) → FirstFails r (check q ok ∷ cs) → r.place ≤ end
fails_first h f (this e) = h
fails_first h f (later e g) = f e g

-- a format whose own checks do so, of a section that lies in the file
abbrev pub OwnInside : FormatChecks → Type 0
OwnInside own = (s : List ℕ) (x : Context) (at n : ℕ) → 5 ≤ length_at s at → at + length_at s at ≤ length s → AllUpto (at + length_at s at) (own s x at n)

module _ (own : FormatChecks) (own_inside : OwnInside own) where
  module _ (s : List ℕ) (x : Context) (at : ℕ) where
    section_inside : (n : ℕ) → 5 ≤ length_at s at → at + length_at s at ≤ length s → AllUpto (at + length_at s at) (section_checks own s x at n)
    unfolding section_checks refuse
    section_inside n five lies =
        let here : at ≤ at + length_at s at = omega arith in
        either (eqb n 1) _ _ _ (here, (here, tt)) (either (eqb n 6) _ _ _ (here, (here, tt)) (own_inside s x at n five lies))

    -- of the checks at a place before the last four octets, or at them
    fails_inside : (end : ℕ) (r : Refusal) → at ≤ length s → end ≤ length s → FirstFails r (checks_at own s end x at) → r.place ≤ length s
    unfolding checks_at refuse
    fails_inside end r here before = go (eqb at end)
      where
        go : (b : Bool) → FirstFails r (cond b (check (refuse Frame at) (closes s x at) ∷ []) (check (refuse Frame at) (framed s end x at) ∷ check (refuse CutCount at) (room_for_cut s x at) ∷ section_checks own s x at (number_at s at))) → r.place ≤ length s
        go true = fails_first here (λ e f. fails_upto (length s) tt f)
        go false = fails_first here (λ e. fails_first here (λ room f.
            let k = framed_is s end x at e in
            let five = k.long in
            let reach = k.reach in
            let upto = fails_upto (at + length_at s at) (section_inside (number_at s at) five (omega arith)) f in
            omega arith))

  refused_by_inside : (s : List ℕ) (r : Refusal) → RefusedBy own s r → r.place ≤ length s
  unfolding refuse
  refused_by_inside s r (size h) = omega arith
  refused_by_inside s r (head h e) = omega arith
  refused_by_inside s r (section {seen} {at} h e passed fails) =
      let inside = (reached own s (end_of s) seen at (omega arith) (omega arith) passed).inside in
      fails_inside s _ at (end_of s) r (omega arith) (omega arith) fails

  pub refused_inside : (s : List ℕ) (r : Refusal) → verdict_by own s ≡ refused r → r.place ≤ length s
  refused_inside s r h = refused_by_inside s r (refused_only own s r h)
