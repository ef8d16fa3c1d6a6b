-- What stands where a record of a packet is due, which is what a refusal for room names.
use Rattle.std.specs.Prelude.{ℕ, ◌+◌, ◌≡◌, List, ◌++◌, Bool, length, drop}
use Rattle.image.specs.declared.record.Record.{Record}
use Rattle.image.specs.declared.record.Record.TheVariants.{Packet, Header, Message}
use Rattle.amf0.specs.Standard.{UTF-8}
use Rattle.amf0_theorems.specs.Due as value

-- the packet's own record is due at its front, an entry's at the length of its first text, a header's name or a message's target; any other, in a value
pub data DueAt (s : List ℕ) (r : Record) (place : ℕ) : Type 0 where
  packet : {h m : ℕ} → r ≡ Packet h m → place ≡ 0 → DueAt s r place
  header : {k x : List ℕ} {flag : Bool} (rest : List ℕ) → UTF-8 k x → drop place s ≡ x ++ rest → r ≡ Header (place + 2) (length k) flag → DueAt s r place
  message : {k x : List ℕ} {q m : ℕ} (rest : List ℕ) → UTF-8 k x → drop place s ≡ x ++ rest → r ≡ Message (place + 2) (length k) q m → DueAt s r place
  inside : value.DueAt s r place → DueAt s r place
