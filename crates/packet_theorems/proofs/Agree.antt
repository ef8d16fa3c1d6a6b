-- The whole reading of a packet whose lengths are those of its values, or not known, against its reading by entry.
use Rattle.std.specs.Prelude.{◌+◌, ◌*◌, ◌≤◌, ◌<◌, ◌≡◌, ◌∷◌, ◌++◌, Ok}
use Rattle.wire.proofs.Kit.{ℕ, zero, suc, refl, sym, ap, ◌∙◌, List, [], append_assoc, arith, le_refl, add-zero, zero-add, append-nil}
use Rattle.wire.proofs.Kit.{suc-add, length, get_or, length-append, le-leb, lt-ltb}
use native.Mathlib.Nat.{add-suc}
use Rattle.wire.specs.Number.{Bytes}
use Rattle.wire.specs.Limit as limit
use Rattle.wire.specs.Field.{u16_at, got, got_to}
use Rattle.wire.specs.declared.cursor.Cursor.{Cursor}
use Rattle.wire.proofs.Stands.{Here}
use Rattle.image.specs.declared.record.Record.TheVariants.{Packet}
use Rattle.image.specs.Record.{bytes_of}
use Rattle.image.specs.Due.{Due, end, stop, seen, due, based, Ends}
use Rattle.image.specs.Whole.{Whole, bytes, accepted}
use Rattle.image.proofs.Settle.{bytes_bind}
use Rattle.amf0.specs.Reading.{top_value}
use Rattle.image.proofs.Kept.{ends_kept}
use Rattle.amf0.proofs.Reasons.{Named, kept}
use Rattle.packet.specs.declared.head.Entry.{Entry}
use Rattle.packet.specs.Head.{version_at, front_of, head_at}
use Rattle.packet.specs.Reading.{record_of, entries_at, count_after, packet_at, whole_of}
use Rattle.packet.specs.Entry.{reached, measured, walk, found, cut_of, no_entry, span_of, read_entry, span}
use Rattle.packet.specs.Change.{images_from, Agrees}
use Rattle.packet.proofs.Laws.{Begun, head_begun}
use Rattle.packet_theorems.specs.Cuts.{Says}
use Rattle.packet_theorems.proofs.Said.{entry_said}
use Rattle.packet_theorems.proofs.Taken.{whole_taken}
use Rattle.amf0.specs.Span.{one_value}
use Rattle.amf0_theorems.proofs.Spans.{ends_bind, alone, answer_all}

-- ---- entries whose values end where their lengths say

-- entries of a kind from a place of s to another, each value, as the whole reading reads it, as long as its length says, or of a length that is not known
pub data Exactly (kind : ℕ) (s : List ℕ) : List Entry → ℕ → ℕ → Type 0 where
  none : {at : ℕ} → Exactly kind s [] at at
  more : {e : Entry} {c : Cursor} {d : ℕ} {y r : List ℕ} {es : List Entry} {at z : ℕ} → head_at kind s at ≡ got_to e c → e.length ≡ d → Says d y
      → Here s e.place y r → Ends (top_value s e.place) (e.place + length y) → Exactly kind s es (e.place + length y) z
      → Exactly kind s (measured e (length y) ∷ es) at z

-- the image of entries read alone, each behind its record
abbrev alones : List ℕ → List Entry → List ℕ
alones s [] = []
alones s (e ∷ es) = bytes_of (record_of e) ++ (bytes (based e.place (top_value (span_of s e) 0)) ++ alones s es)

abbrev Ended : List ℕ → List Entry → Type 0
Ended s [] = Unit {0}
Ended s (e ∷ es) = Ends (top_value (span_of s e) 0) e.length × Ended s es

-- both readings of such entries
pub record Reads (kind : ℕ) (s : List ℕ) (es : List Entry) (at z : ℕ) : Type 0 where
  pub walks : length s ≤ limit.bytes → walk kind s (length es) at ≡ reached es z
  pub ends : Ends (entries_at kind s (length es) at) z
  pub image : bytes (entries_at kind s (length es) at) ≡ alones s es
  pub values : Ended s es

exactly_reads : (kind : ℕ) (s : List ℕ) (es : List Entry) (at z : ℕ) → Bytes s → Exactly kind s es at z → Reads kind s es at z
unfolding walk entries_at bytes
exactly_reads kind s es at z bs Exactly.none = record { walks = λ l. refl; ends = refl; image = refl; values = tt }
exactly_reads kind s es at z bs (Exactly.more {e} {c} {y = y} {es = fs} h same w g v x) =
    go (exactly_reads kind s fs (e.place + length y) z bs x) (head_begun s at kind h)
  where
    go : Reads kind s fs (e.place + length y) z → Begun s at e c.at → Reads kind s (measured e (length y) ∷ fs) at z
    go r d =
        let next = sym d.place in
        let u = top_value s e.place in
        let n : ℕ = e.place + length y in
        let b = (ends_kept Named s (3 * e.place) n u (kept limit.levels s e.place (omega (arith, d.place, d.within))) v).1 in
        let a = alone s e.place (length y) bs b v in
        record {
          walks = λ l. rw (entry_said kind at l h same w g, r.walks l);
          ends = rw (h, next) (ends_bind u (entries_at kind s (length fs)) n z v r.ends);
          image = rw (h, next, bytes_bind u (entries_at kind s (length fs)) n v, a.same, r.image);
          values = (a.ends, r.values);
        }

-- ---- an entry that is read alone

-- a value that takes all bytes of its entry, and has room
pub record Good (s : List ℕ) (room : ℕ) (e : Entry) : Type 0 where
  pub ends : Ends (top_value (span_of s e) 0) e.length
  pub fits : length (bytes (based e.place (top_value (span_of s e) 0))) ≤ room

all_good : (s : List ℕ) (room : ℕ) (es : List Entry) (k : ℕ) → Ended s es → length (alones s es) ≤ room → k < length es → Good s room (get_or es k no_entry)
all_good s room [] k v f h = absurd (omega arith)
all_good s room (e ∷ es) zero v f h = record { ends = v.0; fits = omega (arith, simp length-append at f) }
all_good s room (e ∷ es) (suc k) v f h = all_good s room es k v.1 (omega (arith, simp length-append at f)) (omega arith)

module _ (s : List ℕ) (room : ℕ) (es : List Entry) (n : ℕ) (cut : cut_of s ≡ found es n) where
  pub good_entry : (k : ℕ) (e : Entry) → k < length es → get_or es k no_entry ≡ e → Good s room (get_or es k no_entry)
      → read_entry s k room ≡ accepted e.length (bytes (based e.place (top_value (span_of s e) 0)))
  unfolding read_entry
  good_entry k e h is g = rw (cut, lt-ltb k (length es) h) (answer_all one_value s (span (get_or es k no_entry)) room g.ends g.fits ∙ rw is)

  -- the last of the entries, from the number k on
  images_alone : ((k : ℕ) → k < length es → Good s room (get_or es k no_entry)) → (k : ℕ) (fs : List Entry)
      → ((j : ℕ) → get_or es (k + j) no_entry ≡ get_or fs j no_entry) → k + length fs ≡ length es → images_from s room k fs ≡ alones s fs
  images_alone good k [] at l = refl
  images_alone good k (e ∷ fs) at l =
      rw (
        good_entry k e (omega arith) (rw add-zero at (at 0)) (good k (omega arith)),
        images_alone good (suc k) fs (λ j. rw (suc-add, ← add-suc) (at (suc j))) (omega arith),
      )

-- ---- the whole packet

-- a packet whose entries declare the lengths of their values, as the whole reading reads them, or that these are not known, up to its last byte
pub record Exacts (s : List ℕ) : Type 0 where
  pub headers : List Entry
  pub messages : List Entry
  pub c : Cursor
  pub q : Cursor
  pub f : Cursor
  pub next : ℕ
  pub version : version_at s ≡ Ok c
  pub header_count : u16_at s c.at ≡ got_to (length headers) q
  pub header_values : Exactly 0x31 s headers q.at next
  pub message_count : u16_at s next ≡ got_to (length messages) f
  pub message_values : Exactly 0x32 s messages f.at (length s)

pub count_after_lem : (s : List ℕ) (d : Due) (n m : ℕ) (c : Cursor) → Ends d n → u16_at s n ≡ got_to m c → count_after s d ≡ m
count_after_lem s (end k) n m c e h = rw (← e, h)
count_after_lem s (stop a p) n m c e h = absurd e
count_after_lem s (seen fact d) n m c e h = count_after_lem s d n m c e h
count_after_lem s (due r p d) n m c e h = count_after_lem s d n m c e h

alones_append : (s : List ℕ) (hs ms : List Entry) → alones s (hs ++ ms) ≡ alones s hs ++ alones s ms
alones_append s [] ms = refl
alones_append s (e ∷ hs) ms = rw (alones_append s hs ms) (simp append_assoc)

ended_append : (s : List ℕ) (hs ms : List Entry) → Ended s hs → Ended s ms → Ended s (hs ++ ms)
ended_append s [] ms a b = b
ended_append s (e ∷ hs) ms a b = (a.0, ended_append s hs ms a.1 b)

-- both readings of such a packet
record Both (s : List ℕ) (hs ms : List Entry) : Type 0 where
  cut : length s ≤ limit.bytes → cut_of s ≡ found (hs ++ ms) (length s)
  image : bytes (packet_at s) ≡ bytes_of (Packet (length hs) (length ms)) ++ alones s (hs ++ ms)
  values : Ended s (hs ++ ms)

both : (s : List ℕ) → Bytes s → (x : Exacts s) → Both s x.headers x.messages
unfolding cut_of front_of packet_at bytes
both s bs x =
    let hs = x.headers in
    let ms = x.messages in
    let h = exactly_reads 0x31 s hs x.q.at x.next bs x.header_values in
    let m = exactly_reads 0x32 s ms x.f.at (length s) bs x.message_values in
    let d : Due = entries_at 0x31 s (length hs) x.q.at in
    record {
      cut = λ l. rw (le-leb (length s) limit.bytes l, x.version, x.header_count, h.walks l, x.message_count, m.walks l, le-leb (length s) (length s) (le_refl (length s)), append-nil ms);
      image =
          rw (
            x.version,
            x.header_count,
            count_after_lem s d x.next (length ms) x.f h.ends x.message_count,
            bytes_bind d (λ e. got stop (u16_at s e) (entries_at 0x32 s)) x.next h.ends,
            x.message_count,
            h.image,
            m.image,
            alones_append s hs ms,
          );
      values = ended_append s hs ms h.values m.values;
    }

pub agree : (s : List ℕ) (room : ℕ) → Bytes s → Exacts s → (whole_of s room).reading.answer ≡ 0 → Agrees s room
agree s room bs x e =
    let es = x.headers ++ x.messages in
    let b = both s bs x in
    let t = whole_taken s room e in
    let cut = b.cut t.small in
    let fits : length (alones s es) ≤ room = omega (arith, simp length-append at (ap length b.image), t.fits) in
    let good : (k : ℕ) → k < length es → Good s room (get_or es k no_entry) = λ k h. all_good s room es k b.values fits h in
    let same : images_from s room 0 es ≡ alones s es = images_alone s room es (length s) cut good 0 es (λ j. rw zero-add) (omega arith) in
    record {
      headers = x.headers;
      messages = x.messages;
      cut = cut;
      accepts = λ k h. rw (good_entry s room es (length s) cut k (get_or es k no_entry) h refl (good k h));
      image = ap (λ (w : Whole). w.bytes) t.result ∙ (b.image ∙ ap (λ y. bytes_of (Packet (length x.headers) (length x.messages)) ++ y) (sym same));
    }
