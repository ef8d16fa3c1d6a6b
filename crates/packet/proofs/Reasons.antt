-- A packet's reading goes forward and ends inside the input, lays at most three bytes for each byte that it reads, and is refused with 2, 3, 5 or 7,
-- at a place inside the input.
use Rattle.std.specs.Prelude.{◌+◌, ◌*◌, ◌≤◌, Ok, Err, Result}
use Rattle.wire.proofs.Kit.{ℕ, zero, suc, List, le_refl, arith, length, eqb}
use Rattle.wire.specs.Limit as limit
use Rattle.wire.specs.Number.{number}
use Rattle.wire.specs.Field.{bytes_at, u16_at, got, past_tag}
use Rattle.wire.proofs.Laws.{picked}
use Rattle.wire.proofs.Stands.{go16}
use Rattle.image.specs.declared.record.Record.{Record}
use Rattle.image.specs.declared.record.Record.TheVariants.{Packet}
use Rattle.image.specs.Record.{bytes_of}
use Rattle.image.specs.Due.{Due, stop, due, ◌>>=◌}
use Rattle.image.proofs.Kept.{Kept, fewer, bind_kept, wider}
use Rattle.amf0.specs.Reading.{top_value}
use Rattle.amf0.proofs.Reasons as values
use Rattle.packet.specs.declared.head.Entry.{Entry}
use Rattle.packet.specs.Head.{version_at, head_at, Head}
use Rattle.packet.specs.Reading.{record_of, entries_at, packet_at}
use Rattle.packet.proofs.Laws.{Tells, field_tells, value_tells, two, Headed, head_told, Versioned, version_told}
use Rattle.wire.specs.Answer.{Verdict}
use Rattle.wire.specs.declared.cursor.Cursor.{Cursor}

-- ---- a packet

record_small : (e : Entry) → length (bytes_of (record_of e)) ≤ 11
unfolding bytes_of
record_small e = picked (λ (r : Record). length (bytes_of r) ≤ 11) (eqb e.kind 0x31) _ _ (λ t. omega arith) (λ t. omega arith)

entry_kept : (s : List ℕ) (at : ℕ) (k : ℕ → Due) (x : Head) → at ≤ length s → Headed s at x → ((n : ℕ) → n ≤ length s → Kept (Tells 2) s (3 * n) (k n))
    → Kept (Tells 2) s (3 * at) (got stop x λ e v. due (record_of e) at (k v))
entry_kept s at k (Ok x) l h g = let b = h.0 in (l, fewer (Tells 2) s _ (3 * x.1.at) (k x.1.at) (omega (arith, record_small x.0, b.from)) (g x.1.at b.within))
entry_kept s at k (Err r) l h g = (omega arith, field_tells (omega arith) h.0, h.1 l)

plain_kept : (s : List ℕ) (at : ℕ) → at ≤ length s → Kept (Tells 2) s (3 * at) (top_value s at)
plain_kept s at h = wider values.Named (Tells 2) (λ a. value_tells (omega arith)) s (3 * at) (top_value s at) (values.kept limit.levels s at h)

entries_kept : (kind : ℕ) (s : List ℕ) (n at : ℕ) → at ≤ length s → Kept (Tells 2) s (3 * at) (entries_at kind s n at)
unfolding entries_at
entries_kept kind s zero at h = (le_refl _, h)
entries_kept kind s (suc n) at h =
    entry_kept s at (λ v. top_value s v >>= entries_at kind s n) (head_at kind s at) h (head_told s at kind)
    (λ v l. bind_kept (Tells 2) s (3 * v) (top_value s v) (entries_at kind s n) (plain_kept s v l) (λ m i. entries_kept kind s n m))

-- whatever count of messages the packet's record has
version_kept : (s : List ℕ) (n : ℕ → ℕ → ℕ) (x : Result Cursor Verdict) → Versioned s x
    → Kept (Tells 2) s 0 (past_tag stop x λ p.
    got stop (u16_at s p) λ h q.
    due (Packet h (n h q)) 0
    (entries_at 0x31 s h q >>= λ e. got stop (u16_at s e) λ m f. entries_at 0x32 s m f))
unfolding bytes_of
version_kept s n (Err r) v = (omega arith, v.0, v.1)
version_kept s n (Ok c) v = go16 (Kept (Tells 2) s 0) stop s c.at _
    (λ i.
    let d : Due = entries_at 0x31 s (number (bytes_at 2 s c.at)) (c.at + 2) in (
      omega arith,
      bind_kept (Tells 2) s 5 d _ (fewer (Tells 2) s 5 (3 * (c.at + 2)) d (omega arith) (entries_kept 0x31 s _ (c.at + 2) i))
          (λ n i l. go16 (Kept (Tells 2) s (3 * n)) stop s n _
          (λ j. fewer (Tells 2) s (3 * n) (3 * (n + 2)) (entries_at 0x32 s (number (bytes_at 2 s n)) (n + 2)) (omega arith) (entries_kept 0x32 s _ (n + 2) j))
          (λ j. (omega arith, field_tells (omega arith) two, l))),
    ))
    (λ i. (omega arith, field_tells (omega arith) two, omega (arith, v.0, v.1)))

pub packet_kept : (s : List ℕ) → Kept (Tells 2) s 0 (packet_at s)
unfolding packet_at
packet_kept s = version_kept s _ (version_at s) (version_told s)
