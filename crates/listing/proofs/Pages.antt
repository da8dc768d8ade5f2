-- Step after step makes a page, and the pages joined are the whole text.
use Prim.Native.Nat.{ℕ, suc, ◌+◌, ◌<◌}
use mathlib.Core.Path.{◌≡◌, refl, sym, ap, ◌∙◌}
use mathlib.Core.Bool.{true, false}
use mathlib.Core.List.{List, [], ◌++◌, append_assoc}
use native.Mathlib.Omega.{arith}
use lib.ListN.{length, drop, length-append}
use Rattle.lent.specs.Lent.{placed}
use Rattle.lent.proofs.Lent.{placed_front, length_front}
use Rattle.lines.specs.Text.{entry_lines, end_line}
use Rattle.lines.proofs.Lines.{refused_some, end_some}
use Rattle.listing.specs.Listing.{head_of, text_of, cut_lines, entry_count}
use Rattle.listing.specs.Progress.{cuts_in, list_of, text_at, part_text, text_from, finished, Sound, StepTo, Paged, Pages, none, more}
use Rattle.listing.specs.declared.CutPart.{CutPart}
use Rattle.listing.specs.declared.Progress.{Progress}
use Rattle.listing.specs.declared.Progress.TheVariants.{Refused, Head, ToList, ToWrite, End, Finished}
use Rattle.listing.specs.declared.AfterStep.{AfterStep}
use Rattle.listing.specs.declared.Written.{Written}

-- ---- something is to come, unless the writing is finished
never : false ≡ true → ⊥
never h = let z : ◌≡◌ {A = ℕ} 0 1 = cc in omega arith

at_some : (s : List ℕ) (i n : ℕ) → 0 < length (text_at s i n)
unfolding text_at
at_some s i n =
    let sum : ℕ = n + entry_count s (drop i (cuts_in s)) in
    omega (arith, length-append (cut_lines s i (drop i (cuts_in s))) (end_line sum), end_some sum)

part_some : (s : List ℕ) (part : CutPart) (k : ℕ) → 0 < length (part_text s part k)
unfolding part_text
part_some s part k =
    let rest : List ℕ = text_at s (suc part.number) (part.total + length (list_of s part)) in
    omega (arith, length-append (entry_lines (drop k (list_of s part))) rest, at_some s (suc part.number) (part.total + length (list_of s part)))

pub text_some : (s : List ℕ) (p : Progress) → finished p ≡ false → 0 < length (text_from s p)
unfolding text_from
text_some s (Refused r) h = refused_some _ _
text_some s (Head part) h = omega (arith, length-append (head_of s part.number part.cut) (part_text s part 0), part_some s part 0)
text_some s (ToList part) h = part_some s part 0
text_some s (ToWrite part l k) h = part_some s part k
text_some s (End n) h = end_some n
text_some s Finished h = absurd (never (sym h))

pub text_none : (s : List ℕ) (p : Progress) → finished p ≡ true → text_from s p ≡ []
unfolding text_from
text_none s (Refused r) h = absurd (never h)
text_none s (Head part) h = absurd (never h)
text_none s (ToList part) h = absurd (never h)
text_none s (ToWrite part l k) h = absurd (never h)
text_none s (End n) h = absurd (never h)
text_none s Finished h = refl

-- ---- a page, step by step
pub no_page : (s ws d : List ℕ) (p : Progress) → Sound s ws p → Paged s ws d p d (record { len = 0; next = p })
no_page s ws d p o = record { octets = []; size = refl; room = omega arith; holds = refl; comes = refl; sound = o }

pub page_length : (s ws d e : List ℕ) (p : Progress) (r : Written) → Paged s ws d p e r → length e ≡ length d
page_length s ws d e p r x = ap length x.holds ∙ length_front x.octets d (omega (arith, x.size, x.room))

-- a page that ends because nothing is to come any more has an octet, where anything was to come
pub page_some : (s ws d e : List ℕ) (p : Progress) (r : Written) → Paged s ws d p e r → finished r.next ≡ true → finished p ≡ false → 0 < r.len
page_some s ws d e p r x last first =
    let T : List ℕ = text_from s r.next in
    omega (arith, text_some s p first, ap length x.comes ∙ length-append x.octets T, ap length (text_none s r.next last), x.size)

-- with each page less is to come
pub page_less : (s ws d e : List ℕ) (p : Progress) (r : Written) → Paged s ws d p e r → 0 < r.len → length (text_from s r.next) < length (text_from s p)
page_less s ws d e p r x some = omega (arith, ap length x.comes ∙ length-append x.octets (text_from s r.next), x.size)

pub page_more : (s ws w d e f : List ℕ) (p q : Progress) (at : ℕ) (r : AfterStep)
    → Paged s ws d p e (record { len = at; next = q }) → StepTo s w e q at f r → Paged s w d p f (record { len = r.at; next = r.next })
page_more s ws w d e f p q at r x y =
    let P : List ℕ = x.octets in
    let put = y.put in
    let same = page_length s ws d e p _ x in
    record {
      octets = P ++ y.piece;
      size = omega (arith, put.past, x.size, length-append P y.piece);
      room = omega (arith, put.inside);
      holds = put.there ∙ (λ i. placed (x.holds i) (x.size i) y.piece) ∙ placed_front P d y.piece;
      comes = x.comes ∙ ap (λ (l : List ℕ). P ++ l) y.comes ∙ sym (append_assoc P y.piece (text_from s r.next));
      sound = y.sound;
    }

-- ---- the pages joined
pub joined : (s : List ℕ) (p : Progress) (octets : List ℕ) → Pages s p octets → octets ≡ text_from s p
unfolding text_from
joined s p octets none = refl
joined s p octets (more o q r comes rest) = ap (λ (l : List ℕ). o ++ l) (joined s q r rest) ∙ sym comes

-- from the first standing on they are the text
pub whole : (s : List ℕ) (p : Progress) (octets : List ℕ) → text_from s p ≡ text_of s → Pages s p octets → octets ≡ text_of s
whole s p octets first pages = joined s p octets pages ∙ first
