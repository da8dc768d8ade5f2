-- A number written in octets reads back as itself, and what octets read, written again, is these octets.
use Prim.Native.Nat.{ℕ, zero, suc, ◌+◌, ◌*◌, ◌/◌, ◌%◌, ◌^◌, ◌≤◌, ◌<◌}
use mathlib.Core.Path.{◌≡◌, refl, sym, ◌∙◌, ap}
use mathlib.Core.List.{List, [], ◌∷◌, ◌++◌, append-nil, append_assoc}
use native.Mathlib.Omega.{arith}
use native.Mathlib.Nat.{pow-suc, add-zero, add-suc, mul_assoc}
use lib.ListN.{length, get_or, take, length-append}
use lib.Seq.{get_or_at, take-suc}
use Rattle.octets.specs.Octets.{be, in_octets}
use Rattle.octets.proofs.Lies.{be_same}

pub written_length : (w n : ℕ) → length (in_octets w n) ≡ w
unfolding in_octets
written_length zero n = refl
written_length (suc w) n = length-append (in_octets w (n / 256)) (n % 256 ∷ []) ∙ (let l = written_length w (n / 256) in omega arith)

pub written_reads : (w n : ℕ) → n < 256 ^ w → be (in_octets w n) 0 w ≡ n
unfolding be in_octets
written_reads zero n h = let z : 256 ^ 0 ≡ 1 = refl in omega arith
written_reads (suc w) n h =
    let l = in_octets w (n / 256) in
    let e : 256 ^ suc w ≡ 256 ^ w * 256 = pow-suc 256 w in
    let long = written_length w (n / 256) in
    let there : length l ≡ 0 + w = omega arith in
    let front : be (l ++ (n % 256 ∷ [])) 0 w ≡ n / 256 =
    be_same (l ++ (n % 256 ∷ [])) 0 l (record { after = n % 256 ∷ []; from = refl }) 0 w (omega arith) ∙ written_reads w (n / 256) (omega arith) in
    rw (front, get_or_at l (n % 256) [] 0 (0 + w) there) (omega arith)

pub read_writes : (l : List ℕ) → ((i : ℕ) → get_or l i 0 < 256) → (w : ℕ) → w ≤ length l → in_octets w (be l 0 w) ≡ take w l
unfolding in_octets be
read_writes l small zero le = refl
read_writes l small (suc w) le =
    let x = small (0 + w) in
    let z : 0 + w ≡ w = omega arith in
    let q : (be l 0 w * 256 + get_or l (0 + w) 0) / 256 ≡ be l 0 w = omega arith in
    let r : (be l 0 w * 256 + get_or l (0 + w) 0) % 256 ≡ get_or l w 0 = (omega arith) ∙ ap (λ (n : ℕ). get_or l n 0) z in
    rw (q, r) (ap (λ (t : List ℕ). t ++ (get_or l w 0 ∷ [])) (read_writes l small w (omega arith)) ∙ sym (take-suc l w 0 le))

-- a number in two parts, one after the other
pub written_join : (m w high low : ℕ) → low < 256 ^ w → in_octets (m + w) (high * 256 ^ w + low) ≡ in_octets m high ++ in_octets w low
unfolding in_octets
written_join m zero high low h =
    let one : 256 ^ 0 ≡ 1 = refl in
    let none : high * 256 ^ 0 + low ≡ high = rw one (omega arith) in
    rw (none, add-zero m) (sym (append-nil (in_octets m high)))
written_join m (suc w) high low h =
    let more : 256 ^ suc w ≡ 256 ^ w * 256 = pow-suc 256 w in
    let whole : high * 256 ^ suc w ≡ high * 256 ^ w * 256 = ap (λ (x : ℕ). high * x) more ∙ sym (mul_assoc high (256 ^ w) 256) in
    let front : (high * 256 ^ suc w + low) / 256 ≡ high * 256 ^ w + low / 256 = omega arith in
    let last : (high * 256 ^ suc w + low) % 256 ≡ low % 256 = omega arith in
    rw (add-suc m w, front, last, written_join m w high (low / 256) (omega arith)) (append_assoc (in_octets m high) (in_octets w (low / 256)) (low % 256 ∷ []))
