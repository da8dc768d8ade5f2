-- C reads the octet at fault back from the word of run check and run read: it is 8's word exactly where there is one, as long as 56 bits count the octets. By each answer's cases, and by their reasons.
use Prim.Native.Nat.{ℕ, ◌≤◌}
use mathlib.Core.Path.{◌≡◌, refl, sym, ap, subst, ◌∙◌}
use mathlib.Core.List.{List}
use native.Mathlib.Omega.{arith}
use lib.ListN.{length}
use Rattle.runs.specs.Run.{levels}
use Rattle.runs.specs.Runs.{AtFault}
use Rattle.runs.proofs.Fault.{fault_inside, fault_only}
use Rattle.bare.specs.Read.{read_answer, read_out, ReadPromise, check_answer}
use Rattle.bare.specs.Reasons.{ReadReason, CheckReason}
use Rattle.bare.specs.declared.ReadRefusal.TheVariants as F
use Rattle.bare.specs.declared.CheckRefusal.TheVariants as C
use Rattle.bare.proofs.Reasons.{read_reason, reason_read, check_reason, reason_check}
use Rattle.c_words.specs.Word.{refusal_word, place_told, number_in, place_in}
use Rattle.c_words.specs.Runs.{check_return, read_return}
use Rattle.c_words.proofs.Word.{number_back, place_back, place_told_lem}
use Rattle.polar_c.specs.Runs.{RunCheckCall, RunReadCall}
use Rattle.bare.specs.declared.CheckRefusal.{CheckRefusal}
use Rattle.bare.specs.declared.ReadRefusal.{ReadRefusal}
use Rattle.std.specs.Prelude.{Err, Ok, Result, ⊤}

module _ (v n : ℕ) (octets : List ℕ) (few : length octets ≤ 0xFFFFFFFFFFFFFF) where
  -- the word of 8 at the octet at fault
  told : (i : ℕ) → AtFault v n octets i → place_in (refusal_word 8 (place_told i)) ≡ i
  told i f =
      let low : i ≤ 0xFFFFFFFFFFFFFF = omega (arith, fault_only v n i octets f, fault_inside v n octets) in
      place_back 8 (place_told i) (omega arith) ∙ place_told_lem i low

  -- ── run check ──

  check_word : (w : ℕ) (a : Result ⊤ CheckRefusal) → check_answer v n octets ≡ a → w ≡ check_return a → number_in w ≡ 8 → AtFault v n octets (place_in w)
  check_word w (Ok tt) e is z = absurd (omega arith)
  check_word w (Err C.V) e is z = absurd (omega arith)
  check_word w (Err C.Argument) e is z = absurd (omega arith)
  check_word w (Err (C.Data i)) e is z = go (check_reason v n octets (C.Data i) (record { answered = sym e }))
    where
      go : CheckReason v n octets (C.Data i) → AtFault v n octets (place_in w)
      go (CheckReason.by_data a b f) = subst (AtFault v n octets) (sym (ap place_in is ∙ told i f)) f

  pub check_fault : (w : ℕ) → RunCheckCall v n octets w → number_in w ≡ 8 → AtFault v n octets (place_in w)
  check_fault w p = check_word w (check_answer v n octets) refl p.returned

  pub fault_check : (w i : ℕ) → v ≤ 253 → n ≤ 2097152 → AtFault v n octets i → RunCheckCall v n octets w → (number_in w ≡ 8) × (place_in w ≡ i)
  fault_check w i low small f p =
      let a = reason_check v n octets (C.Data i) (check_answer v n octets) (CheckReason.by_data low small f) (record { answered = refl }) in
      let is : w ≡ refusal_word 8 (place_told i) = p.returned ∙ ap check_return a in
      (ap number_in is ∙ number_back 8 (place_told i) (omega arith), ap place_in is ∙ told i f)

  -- ── run read ──

  module _ (lent lent' : List ℕ) where
    read_word : (w : ℕ) (a : Result ⊤ ReadRefusal) → read_answer v n (length lent) octets ≡ a → w ≡ read_return a → ReadPromise v n octets lent a lent' → number_in w ≡ 8 → AtFault v n octets (place_in w)
    read_word w (Ok tt) e is p z = absurd (omega arith)
    read_word w (Err F.V) e is p z = absurd (omega arith)
    read_word w (Err F.Argument) e is p z = absurd (omega arith)
    read_word w (Err F.Room) e is p z = absurd (omega arith)
    read_word w (Err (F.Data i)) e is p z = go (read_reason v n octets lent lent' (F.Data i) p)
      where
        go : ReadReason v n (length lent) octets (F.Data i) → AtFault v n octets (place_in w)
        go (ReadReason.by_data a b c f) = subst (AtFault v n octets) (sym (ap place_in is ∙ told i f)) f

    pub read_fault : (w : ℕ) → RunReadCall v n octets lent w lent' → number_in w ≡ 8 → AtFault v n octets (place_in w)
    read_fault w p = read_word w (read_answer v n (length lent) octets) refl p.returned (record { answered = refl; held = p.held })

    pub fault_read : (w i : ℕ) → v ≤ 253 → n ≤ 2097152 → n ≤ length lent → AtFault v n octets i → RunReadCall v n octets lent w lent' → (number_in w ≡ 8) × (place_in w ≡ i) × (lent' ≡ lent)
    fault_read w i low small room f p =
        let a = reason_read v n octets lent lent' (F.Data i) (read_answer v n (length lent) octets) (ReadReason.by_data low small room f) (record { answered = refl; held = p.held }) in
        let is : w ≡ refusal_word 8 (place_told i) = p.returned ∙ ap read_return a in
        (ap number_in is ∙ number_back 8 (place_told i) (omega arith), ap place_in is ∙ told i f, p.held ∙ ap (λ (x : Result ⊤ ReadRefusal). read_out x (levels v octets) lent) a)
