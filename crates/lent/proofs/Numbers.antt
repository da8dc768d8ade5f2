-- The octets of a 64-bit number, the most significant first: the last w of them are what w octets write.
use Rattle.std.proofs.Common.{ℕ, zero, suc, ◌+◌, ◌-◌, ◌/◌, ◌%◌, ◌^◌, ◌≤◌, ◌≡◌, [], ◌∷◌, ◌++◌, take, drop, refl, sym, ap, ◌∙◌, arith, append_assoc}
use Rattle.std.proofs.lemmas.List.{append-nil, take_all}
use Rattle.std.proofs.Math.Nat.{pow-suc, mul_comm, div-div-eq-div-mul, add-zero, add-suc}
use Rattle.std.proofs.Math.Seq.{drop_at}
use Rattle.std.specs.Int.{w64, byte_at, bytes_high_first, to_be_bytes}
use Rattle.octets.specs.Octets.{in_octets}
use Rattle.octets.proofs.Written.{written_length}

-- those in front are of what is left by those behind
pub split_off : (m w n : ℕ) → in_octets (m + w) n ≡ in_octets m (n / 256 ^ w) ++ in_octets w n
unfolding in_octets
split_off m zero n =
    let whole : n / 256 ^ 0 ≡ n = omega arith in
    rw (whole, add-zero m) (sym (append-nil (in_octets m n)))
split_off m (suc w) n =
    let front : n / 256 / 256 ^ w ≡ n / 256 ^ suc w = div-div-eq-div-mul n 256 (256 ^ w) ∙ ap (λ (x : ℕ). n / x) (mul_comm 256 (256 ^ w) ∙ sym (pow-suc 256 w)) in
    rw (add-suc m w, split_off m w (n / 256), front) (append_assoc (in_octets m (n / 256 ^ suc w)) (in_octets w (n / 256)) (n % 256 ∷ []))

byte_is : (w n : ℕ) → byte_at w n ≡ n / 256 ^ w % 256
byte_is zero n = let whole : n / 256 ^ 0 ≡ n = omega arith in rw whole refl
byte_is (suc w) n = refl

pub high_first : (w n : ℕ) → bytes_high_first w n ≡ in_octets w n
unfolding in_octets
high_first zero n = refl
high_first (suc w) n =
    let one : suc w ≡ 1 + w = omega arith in
    (λ i. byte_is w n i ∷ high_first w n i) ∙ sym (ap (λ (k : ℕ). in_octets k n) one ∙ split_off 1 w n)

pub last_octets : (n w : ℕ) → w ≤ 8 → take (8 - (8 - w)) (drop (8 - w) (to_be_bytes w64 n)) ≡ in_octets w n
last_octets n w few =
    let all : 8 ≡ 8 - w + w = omega arith in
    let last : 8 - (8 - w) ≡ w = omega arith in
    let split : to_be_bytes w64 n ≡ in_octets (8 - w) (n / 256 ^ w) ++ in_octets w n = high_first 8 n ∙ ap (λ (k : ℕ). in_octets k n) all ∙ split_off (8 - w) w n in
    rw (split, last, drop_at (in_octets (8 - w) (n / 256 ^ w)) (in_octets w n) (8 - w) (written_length (8 - w) (n / 256 ^ w))) (take_all w (in_octets w n) (omega (arith, written_length w n)))
