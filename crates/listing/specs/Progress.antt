-- Where the writing of a text stands: what is still to come, and what makes a standing sound. `text_from` is what the contracts go by.
use Rattle.std.specs.Prelude.{ℕ, suc, ◌+◌, ◌*◌, ◌≤◌, ◌<◌, ◌≡◌, Bool, true, false, List, [], ◌++◌, length, take, drop, get_or}
use Rattle.sections.specs.Parts.{bins_in, rays_in}
use Rattle.sections.specs.Refusal.{number_of}
use Rattle.sections.specs.Verdict.{Verdict, accepted, refused, default_cut}
use Rattle.base_format.specs.Verdict.{verdict}
use Rattle.sections.specs.declared.Cut.{Cut}
use Rattle.stretches.specs.Stretch.{Entry, per_entry}
use Rattle.stretches.specs.Call.{answer_of, right_point}
use Rattle.stretches.specs.declared.Listing.{Listing}
use Rattle.lent.specs.Lent.{front}
use Rattle.lent.specs.Put.{Put}
use Rattle.lines.specs.Rooms.{entry_room}
use Rattle.lines.specs.Text.{entry_lines, refused_line, end_line}
use Rattle.lines.specs.Words.{entries_in}
use Rattle.listing.specs.Listing.{head_of, house_list, cut_lines, entry_count}
use Rattle.listing.specs.declared.CutPart.{CutPart}
use Rattle.listing.specs.declared.Progress.{Progress}
use Rattle.listing.specs.declared.Progress.TheVariants.{Refused, Head, ToList, ToWrite, End, Finished}
use Rattle.listing.specs.declared.AfterStep.{AfterStep}
use Rattle.listing.specs.declared.Written.{Written}

-- how much room a step asks: that of 256 lines of entries
abbrev pub step_room : ℕ
step_room = 256 * entry_room

-- the cuts of a file
abbrev pub cuts_by : Verdict → List Cut
cuts_by (accepted cs) = cs
cuts_by (refused r) = []

abbrev pub cuts_in : List ℕ → List Cut
cuts_in s = cuts_by (verdict s)

-- a cut from its beginning on
abbrev pub cut_begun : ℕ → ℕ → Cut → ℕ → CutPart
cut_begun number cuts cut total = record { number = number; cuts = cuts; cut = cut; ray = 0; bin = 0; total = total }

-- the list of a part: the stretches of its cut from its point on
abbrev pub list_of : List ℕ → CutPart → List Entry
list_of s part = house_list s part.cut part.ray part.bin

-- from cut i on, with n entries before: its lines, those of the later cuts, and the last line
unfoldable pub text_at : List ℕ → ℕ → ℕ → List ℕ
text_at s i n = cut_lines s i (drop i (cuts_in s)) ++ end_line (n + entry_count s (drop i (cuts_in s)))

-- the list of a part less the first k entries, and what comes past its cut
unfoldable pub part_text : List ℕ → CutPart → ℕ → List ℕ
part_text s part k = entry_lines (drop k (list_of s part)) ++ text_at s (suc part.number) (part.total + length (list_of s part))

-- the text still to come
unfoldable pub text_from : List ℕ → Progress → List ℕ
text_from s (Refused r) = refused_line (number_of r.why) r.place
text_from s (Head part) = head_of s part.number part.cut ++ part_text s part 0
text_from s (ToList part) = part_text s part 0
text_from s (ToWrite part l k) = part_text s part k
text_from s (End n) = end_line n
text_from s Finished = []

abbrev pub finished : Progress → Bool
finished (Refused r) = false
finished (Head part) = false
finished (ToList part) = false
finished (ToWrite part l k) = false
finished (End n) = false
finished Finished = true

-- the part of a cut of the file, from a right point on, where entries are to come; the sum of entries stays small
pub record AtCut (s : List ℕ) (part : CutPart) : Type 0 where
  pub within : part.number < length (cuts_in s)
  pub all : part.cuts ≡ length (cuts_in s)
  pub is : part.cut ≡ get_or (cuts_in s) part.number default_cut
  pub point : right_point (bins_in s part.cut) (rays_in s part.cut) part.ray part.bin ≡ true
  pub some : 0 < length (list_of s part)
  pub few : part.total + length (list_of s part) ≤ suc part.number * 2097152

-- l answers for the part's list and some room
pub record Listed (s : List ℕ) (part : CutPart) (l : Listing) : Type 0 where
  pub at : AtCut s part
  pub room : ℕ
  pub for_one : per_entry ≤ room
  pub answer : l ≡ answer_of (rays_in s part.cut) room (list_of s part)

-- the words hold the entries that l counts, of which k were written
pub record InWords (s ws : List ℕ) (part : CutPart) (l : Listing) (k : ℕ) : Type 0 where
  pub listed : Listed s part l
  pub inside : per_entry * l.count ≤ length ws
  pub holds : entries_in ws 0 l.count ≡ take l.count (list_of s part)
  pub some_left : k < l.count

unfoldable pub Sound : List ℕ → List ℕ → Progress → Type 0
Sound s ws (Refused r) = Unit {0}
Sound s ws (Head part) = AtCut s part
Sound s ws (ToList part) = AtCut s part
Sound s ws (ToWrite part l k) = InWords s ws part l k
Sound s ws (End n) = Unit {0}
Sound s ws Finished = Unit {0}

-- r is sound, and the text is still to come there
pub record ToCome (s ws text : List ℕ) (r : Progress) : Type 0 where
  pub comes : text_from s r ≡ text
  pub sound : Sound s ws r

-- how many steps may still come: each writes something, but for the one from ToList to ToWrite
abbrev pub rank : Progress → ℕ
rank (Refused r) = 0
rank (Head part) = 0
rank (ToList part) = 1
rank (ToWrite part l k) = 0
rank (End n) = 0
rank Finished = 0

unfoldable pub steps_left : List ℕ → Progress → ℕ
steps_left s p = 2 * length (text_from s p) + rank p

-- a step from p to r: what it puts at a place is the beginning of what was to come
pub record StepTo (s ws before : List ℕ) (p : Progress) (at : ℕ) (after : List ℕ) (r : AfterStep) : Type 0 where
  pub piece : List ℕ
  pub put : Put before at piece after r.at
  pub comes : text_from s p ≡ piece ++ text_from s r.next
  pub sound : Sound s ws r.next
  pub falls : finished p ≡ false → steps_left s r.next < steps_left s p

-- a page from p to r: its octets are the first of what was to come, and stand at the front of the lent text
pub record Paged (s ws before : List ℕ) (p : Progress) (after : List ℕ) (r : Written) : Type 0 where
  pub octets : List ℕ
  pub size : r.len ≡ length octets
  pub room : r.len ≤ length before
  pub holds : after ≡ front octets before
  pub comes : text_from s p ≡ octets ++ text_from s r.next
  pub sound : Sound s ws r.next

-- pages from p on, each from where the one before left off, up to the last: their octets, joined
pub data Pages (s : List ℕ) : Progress → List ℕ → Type 0 where
  none : Pages s Finished []
  more : {p : Progress} (octets : List ℕ) (q : Progress) (rest : List ℕ) → text_from s p ≡ octets ++ text_from s q → Pages s q rest → Pages s p (octets ++ rest)
