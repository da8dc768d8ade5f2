-- Fetching in portions (demand 3): calls of one cut at one threshold, each made at the point that the call before handed back.
use Rattle.std.specs.Prelude.{ℕ, suc, ◌*◌, ◌≡◌, List, [], ◌++◌, take, ℤ, Ok}
use Rattle.stretches.specs.Stretch.{Entry, per_entry, words_of}
use Rattle.stretches.specs.declared.Listing.{Listing}
use Rattle.polar.specs.Promises.{StretchesPromise}

-- n calls, from the point (ray, bin) to the point (ray', bin'), that handed over the entries es: those of each call stand at the front of its words
pub data Fetched (s : List ℕ) (i : ℕ) (t : ℤ) : ℕ → ℕ → ℕ → List Entry → ℕ → ℕ → Type 0 where
  none : {ray bin : ℕ} → Fetched s i t 0 ray bin [] ray bin
  call : {n ray bin ray' bin' : ℕ} {words words' : List ℕ} {l : Listing} {fs : List Entry} (es : List Entry)
      → StretchesPromise s i t ray bin words (Ok l) words'
      → words_of es ≡ take (per_entry * l.count) words'
      → Fetched s i t n l.ray l.bin fs ray' bin'
      → Fetched s i t (suc n) ray bin (es ++ fs) ray' bin'
