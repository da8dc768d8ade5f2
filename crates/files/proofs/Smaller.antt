-- FORMAT.md, "To come", smaller file and rescue, over octets: a file assembled from cuts that stood in another is a file with just these cuts.
use Prim.Native.Nat.{ℕ, ◌+◌, ◌/◌, ◌%◌, ◌^◌, ◌≤◌, ◌<◌}
use mathlib.Core.Path.{◌≡◌, refl, sym, ◌∙◌, subst}
use mathlib.Core.List.{List, [], ◌∷◌, ◌++◌}
use mathlib.Core.Bool.{Bool, true, false, cond}
use native.Mathlib.Omega.{arith}
use lib.Dec.{eqb}
use lib.ListN.{length, take, length-append, length-take}
use Rattle.octets.specs.Octets.{be, same}
use Rattle.octets.proofs.Same.{same_eq, same_refl}
use Rattle.octets.proofs.Written.{written_length}
use Rattle.rules.specs.Rules.{field, meets, meets_all, rules0, rules8}
use Rattle.sections.specs.Accepted.{Meets, Format}
use Rattle.files.specs.File.{Parts, Whole, Cuts, none, new_3, same_3, Leading, File, first_four, body_of, total_in}
use Rattle.files.specs.Smaller.{chosen, cuts_after, totalled, sevens, assembled}
use Rattle.files.proofs.Leading.{size_of}
use Rattle.files.proofs.Each.{Each, of_none, of_one, each_of}
use Rattle.files.proofs.Total.{totalled_long, total_is, totalled_is}
use Rattle.files.proofs.FromFile.{body_length}

-- any cut's section 4 may be the first
abbrev pub Regular : Format → Type 0
Regular f = (first s3 a s3' b : List ℕ) → f.Four first s3 a → f.Four first s3' b → f.Four a s3' b

-- some of the cuts, in order
pub data Some : List Parts → List Parts → Type 0 where
  nil : Some [] []
  take_it : {p : Parts} {qs ps : List Parts} → Some qs ps → Some (p ∷ qs) (p ∷ ps)
  leave_it : {p : Parts} {qs ps : List Parts} → Some qs ps → Some qs (p ∷ ps)

pub chosen_some : (w : ℕ) (ps : List Parts) → Some (chosen w ps) ps
chosen_some w [] = nil
chosen_some w (p ∷ ps) = go (eqb (w % 2) 1) (chosen_some (w / 2) ps)
  where
    go : (b : Bool) → Some (chosen (w / 2) ps) ps → Some (cond b (p ∷ chosen (w / 2) ps) (chosen (w / 2) ps)) (p ∷ ps)
    go true r = take_it r
    go false r = leave_it r

pub some_few : (qs ps : List Parts) → Some qs ps → length qs ≤ length ps
some_few qs ps nil = omega arith
some_few qs ps (take_it {qs = q} {ps = p} r) = let h = some_few q p r in omega arith
some_few qs ps (leave_it {ps = p} r) = let h = some_few qs p r in omega arith

module _ (f : Format) (first : List ℕ) where
  pub each_some : (qs ps : List Parts) → Some qs ps → Each f first ps → Each f first qs
  each_some qs ps nil e = of_none
  each_some qs ps (take_it {qs = q} {ps = p} r) (of_one w e) = of_one w (each_some q p r e)
  each_some qs ps (leave_it {ps = p} r) (of_one w e) = each_some qs p r e

  -- written one after the other, they are cuts
  pub written_cuts : (s3 : List ℕ) (ps : List Parts) → Each f first ps → Cuts f first s3 ps (cuts_after s3 ps)
  written_cuts s3 ps of_none = none
  written_cuts s3 ps (of_one {p = p} {ps = qs} w e) = go (same s3 p.three) refl (written_cuts p.three qs e)
    where
      go : (b : Bool) → same s3 p.three ≡ b → Cuts f first p.three qs (cuts_after p.three qs)
          → Cuts f first s3 (p ∷ qs) (cond b (body_of p (cuts_after p.three qs)) (p.three ++ body_of p (cuts_after p.three qs)))
      go true h c =
          subst (λ (o : List ℕ). Cuts f first o (p ∷ qs) (body_of p (cuts_after p.three qs))) (sym (same_eq s3 p.three h))
          (same_3 w c)
      go false h c = new_3 w c

  -- no longer than where they stood: each section 3 that is written stood there too
  abbrev cost : List ℕ → List ℕ → ℕ
  cost w s3 = cond (same w s3) 0 (length s3)

  cost_le : (w s3 : List ℕ) → cost w s3 ≤ length s3
  cost_le w s3 = go (same w s3)
    where
      go : (b : Bool) → cond b 0 (length s3) ≤ length s3
      go true = omega arith
      go false = omega arith

  head_length : (w : List ℕ) (p : Parts) (r : List ℕ)
      → length (cond (same w p.three) (body_of p r) (p.three ++ body_of p r)) ≡ cost w p.three + length (body_of p r)
  head_length w p r = go (same w p.three)
    where
      go : (b : Bool) → length (cond b (body_of p r) (p.three ++ body_of p r)) ≡ cond b 0 (length p.three) + length (body_of p r)
      go true = omega arith
      go false = length-append p.three (body_of p r)

  body_less : (p : Parts) (a b : List ℕ) → length a ≤ length b → length (body_of p a) ≤ length (body_of p b)
  body_less p a b h = let x = body_length p a in let y = body_length p b in omega arith

  body_more : (p : Parts) (r : List ℕ) → length r ≤ length (body_of p r)
  body_more p r = let x = body_length p r in omega arith

  pub no_longer : (w s3 : List ℕ) (qs ps : List Parts) (rest : List ℕ) → Some qs ps → Cuts f first s3 ps rest
      → length (cuts_after w qs) ≤ length rest + cost w s3
  no_longer w s3 qs ps rest nil c = omega arith
  no_longer w s3 qs ps rest (take_it {p = p} {qs = us} {ps = vs} t) (new_3 {rest = r} x c) =
      let ih = no_longer p.three p.three us vs r t c in
      let z : cost p.three p.three ≡ 0 = rw (same_refl p.three) in
      let k = cost_le w p.three in
      let b = body_less p (cuts_after p.three us) r (omega arith) in
      let e = head_length w p (cuts_after p.three us) in
      let l = length-append p.three (body_of p r) in
      omega arith
  no_longer w s3 qs ps rest (take_it {p = p} {qs = us} {ps = vs} t) (same_3 {rest = r} x c) =
      let ih = no_longer p.three p.three us vs r t c in
      let z : cost p.three p.three ≡ 0 = rw (same_refl p.three) in
      let b = body_less p (cuts_after p.three us) r (omega arith) in
      let e = head_length w p (cuts_after p.three us) in
      omega arith
  no_longer w s3 qs ps rest (leave_it {p = p} {ps = vs} t) (new_3 {rest = r} x c) =
      let ih = no_longer w p.three qs vs r t c in
      let k = cost_le w p.three in
      let b = body_more p r in
      let l = length-append p.three (body_of p r) in
      omega arith
  no_longer w s3 qs ps rest (leave_it {p = p} {ps = vs} t) (same_3 {rest = r} x c) =
      let ih = no_longer w p.three qs vs r t c in
      let b = body_more p r in
      omega arith

-- ── another first section 4 ──

other_first : (f : Format) → Regular f → (first : List ℕ) (p q : Parts) → Whole f first p → Whole f first q → Whole f p.four q
other_first f reg first p q a b =
    record {
      three = b.three;
      three_is = b.three_is;
      four = b.four;
      four_is = reg first p.three p.four q.three q.four a.four_is b.four_is;
      five = b.five;
      five_is = b.five_is;
      six = b.six;
      six_long = b.six_long;
      six_is = b.six_is;
      seven = b.seven;
      seven_is = b.seven_is;
    }

all_first : (f : Format) → Regular f → (first : List ℕ) (p : Parts) (qs : List Parts) → Whole f first p → Each f first qs → Each f p.four qs
all_first f reg first p qs a of_none = of_none
all_first f reg first p qs a (of_one {p = q} {ps = rs} b e) = of_one (other_first f reg first p q a b) (all_first f reg first p rs a e)

own_first : (f : Format) → Regular f → (first : List ℕ) (qs : List Parts) → Each f first qs → Each f (first_four qs) qs
own_first f reg first qs of_none = of_none
own_first f reg first qs (of_one {p = p} {ps = rs} a e) = of_one (other_first f reg first p p a a) (all_first f reg first p rs a e)

-- ── the file ──

sevens_are : Meets sevens 0 rules8
unfolding rules8 meets_all meets field be
sevens_are = refl

-- sections 0 and 1 and cuts that stand one after the other: assembled, they are a file with these cuts (FORMAT.md, "To come": smaller file, rescue)
pub assembled_file : (f : Format) (s : List ℕ) (ps : List Parts) (left : List ℕ) (a : Leading f s ps left) → 1 ≤ length ps → length ps ≤ 64
    → length a.cuts ≤ 8388567 → File f (assembled a.zero a.one a.cuts) ps
assembled_file f s ps left a some few le =
    let l1 = a.one_long in
    let total = 16 + (length a.one + (length a.cuts + 4)) in
    let small : total < 256 ^ 8 = omega arith in
    let zero = totalled a.zero total in
    let zero_long = totalled_long a.zero a.zero_long (total_in a.zero) a.zero_is total small in
    let told = total_is a.zero a.zero_long (total_in a.zero) a.zero_is total small in
    let leading : Leading f (assembled a.zero a.one a.cuts) ps sevens =
    record {
      zero = zero;
      one = a.one;
      cuts = a.cuts;
      is = refl;
      zero_long = zero_long;
      zero_is =
          subst (λ (n : ℕ). Meets zero 0 (rules0 n)) (sym told)
          (totalled_is a.zero a.zero_long (total_in a.zero) a.zero_is total small);
      one_here = a.one_here;
      one_long = a.one_long;
      one_is = a.one_is;
      cuts_are = a.cuts_are;
    } in
    let size = size_of leading in
    record {
      eight = sevens;
      leading = leading;
      total = told ∙ (omega arith);
      large = omega arith;
      some = some;
      few = few;
      eight_long = refl;
      eight_is = sevens_are;
    }

module _ (f : Format) (s : List ℕ) (ps qs : List Parts) (file : File f s ps) (sub : Some qs ps) where
  cuts_short : length (cuts_after [] qs) ≤ length file.leading.cuts
  cuts_short =
      let a = file.leading in
      let first = first_four ps in
      let short = no_longer f first [] [] qs ps a.cuts sub a.cuts_are in
      let none_due : cost f first [] [] ≡ 0 = rw (same_refl []) in
      omega arith

  -- Smaller file: the chosen cuts of a file, written after its sections 0 and 1, are a file with just these cuts
  pub smaller_file : Regular f → 1 ≤ length qs → File f (assembled file.leading.zero file.leading.one (cuts_after [] qs)) qs
  smaller_file reg some =
      let a = file.leading in
      let first = first_four ps in
      let less = some_few qs ps sub in
      let few = file.few in
      let e = each_some f first qs ps sub (each_of f first [] ps a.cuts a.cuts_are) in
      let short = cuts_short in
      let size = size_of a in
      let large = file.large in
      let l8 = file.eight_long in
      let made : Leading f (a.zero ++ (a.one ++ (cuts_after [] qs ++ []))) qs [] =
      record {
        zero = a.zero;
        one = a.one;
        cuts = cuts_after [] qs;
        is = refl;
        zero_long = a.zero_long;
        zero_is = a.zero_is;
        one_here = a.one_here;
        one_long = a.one_long;
        one_is = a.one_is;
        cuts_are = written_cuts f (first_four qs) [] qs (own_first f reg first qs e);
      } in
      assembled_file f _ qs [] made some (omega arith) (omega arith)

  -- and it is no longer than the file
  pub smaller_short : Regular f → 1 ≤ length qs → length (assembled file.leading.zero file.leading.one (cuts_after [] qs)) ≤ length s
  smaller_short reg some =
      let made = smaller_file reg some in
      let size = size_of file.leading in
      let short = cuts_short in
      let l8 = file.eight_long in
      let l0 = file.leading.zero_long in
      let l1 = file.leading.one_long in
      let w = written_length 8 (16 + (length file.leading.one + (length (cuts_after [] qs) + 4))) in
      let f8 : length (take 8 file.leading.zero) ≡ 8 = length-take 8 file.leading.zero ∙ (omega arith) in
      simp length-append (omega arith)
