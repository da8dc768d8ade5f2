-- Arguments that C hands in wider than the calls below take them. No promise to C cites these: it speaks of the argument as it was handed in.
use Rattle.std.specs.Prelude.{ℕ, cond, ltb, ℤ, pos}
use Rattle.stretches.specs.Call.{right_t}

-- V as an octet; every V past 253 is refused alike, by 12
abbrev pub narrow_v : ℕ → ℕ
narrow_v v = cond (ltb 253 v) 254 v

-- a threshold in 32 bits; every threshold outside its range is refused alike, by 10
abbrev pub narrow_threshold : ℤ → ℤ
narrow_threshold t = cond (right_t t) t (pos 32768)
