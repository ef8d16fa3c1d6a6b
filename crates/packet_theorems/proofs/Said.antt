-- An entry against what its length says of the bytes behind it: what stands there is found, and what was found stood there.
use Rattle.std.specs.Prelude.{◌+◌, ◌-◌, ◌^◌, ◌≤◌, ◌<◌, ◌≡◌, Ok, Err}
use Rattle.wire.proofs.Kit.{ℕ, refl, ap, subst, ◌∙◌, List, arith, length, length-append, length-drop, lit<, le-leb, ne_eqb}
use Rattle.wire.specs.Limit as limit
use Rattle.wire.specs.Number.{Bytes}
use Rattle.wire.specs.Field.{to, got_to}
use Rattle.wire.specs.declared.cursor.Cursor.{Cursor}
use Rattle.wire.proofs.Stands.{Here, there, length_bytes}
use Rattle.image.proofs.Settle.{on_ends}
use Rattle.amf0.specs.Reading.{top_value}
use Rattle.amf0_theorems.specs.Spans.{Value}
use Rattle.amf0_theorems.proofs.Sound as soundness
use Rattle.amf0_theorems.proofs.Telling as telling
use Rattle.packet.specs.declared.head.Entry.{Entry}
use Rattle.packet.specs.Head.{unknown, head_at, Head}
use Rattle.packet.specs.Entry.{measured, entry_at, span_of}
use Rattle.packet.proofs.Laws.{head_begun, value_read, Entered, entry_told}
use Rattle.packet_theorems.specs.Cuts.{Says}

-- ---- what a length says

-- it has room in its four bytes
pub says_small : {d : ℕ} {y : List ℕ} → Says d y → d < 256 ^ 4
says_small (Says.known l) = omega arith
says_small (Says.measured v) = lit< tt

-- where it is not known, a value stands behind it
pub says_value : {d : ℕ} {y : List ℕ} → Says d y → d ≡ unknown → Value y
says_value (Says.known l) e = absurd (omega arith)
says_value (Says.measured v) e = v

-- it says the same of other bytes, which are as many, and the same where it is not known
pub says_again : {d : ℕ} {y z : List ℕ} → Says d y → length z ≡ length y → (d ≡ unknown → z ≡ y) → Says d z
says_again {z = z} (Says.known l) e f = rw (← e) (Says.known {y = z} (omega arith))
says_again (Says.measured v) e f = rw (f refl) (Says.measured v)

-- ---- an entry

-- what stands there is found
pub entry_said : (kind : ℕ) {s r y : List ℕ} (at : ℕ) {d : ℕ} {e : Entry} {c : Cursor} → length s ≤ limit.bytes → head_at kind s at ≡ got_to e c
    → e.length ≡ d → Says d y → Here s e.place y r → entry_at kind s at ≡ got_to (measured e (length y)) (to (e.place + length y))
unfolding entry_at
entry_said kind {s} {r} at {e = e} {c} l h same (Says.known {y} b) g =
    let o = head_begun s at kind h in
    let fits : e.place + e.length ≤ length s =
    omega (arith, length-drop e.place s, ap length g.same, length-append y r, o.place, o.within) in
    rw (h, ← o.place, ← same, ne_eqb e.length unknown (λ z. omega arith), le-leb (e.place + e.length) (length s) fits)
entry_said kind {s} {r} at {e = e} {c} l h same (Says.measured {y} v) g =
    let o = head_begun s at kind h in
    let n : ℕ = e.place + length y in
    let long : n - e.place ≡ length y = omega arith in
    let t = (telling.reads limit.levels s r e.place v.encodes g v.deep).ends in
    rw (h, ← o.place, same, value_read s e.place l (omega (arith, o.place, o.within)), on_ends (top_value s e.place) n _ _ t, long)

-- an entry that was found: its head, and what its length says of the bytes of its value
pub record Said (kind : ℕ) (s : List ℕ) (at : ℕ) (e : Entry) : Type 0 where
  pub head : Entry
  pub read : head_at kind s at ≡ got_to head (to head.place)
  pub is : measured head e.length ≡ e
  pub says : Says head.length (span_of s e)

module _ (kind : ℕ) (s : List ℕ) (at : ℕ) (bs : Bytes s) (l : length s ≤ limit.bytes) where
  abbrev WasSaid : Head → Type 0
  WasSaid (Ok x) = Said kind s at x.0
  WasSaid (Err r) = Unit {0}

  was_said : (x : Head) → Entered kind s at x → WasSaid x
  was_said (Ok x) (Entered.fits h k i) =
      let o = head_begun s at kind h in
      let long = length_bytes x.0.length s x.0.place (omega (arith, o.place)) in
      record { head = x.0; read = h ∙ rw o.place; is = refl; says = subst (λ d. Says d (span_of s x.0)) long (Says.known {y = span_of s x.0} (omega (arith, k))) }
  was_said (Ok x) (Entered.ends {e = f} {c = d} {n} h u i t) =
      let o = head_begun s at kind h in
      let v = soundness.sound limit.levels s d.at n bs t in
      let y : span_of s (measured f (n - d.at)) ≡ v.row = rw o.place (there (n - d.at) v.here (omega (arith, v.next))) in
      record {
        head = f;
        read = h ∙ rw o.place;
        is = refl;
        says = rw (u, y) (Says.measured (record { tree = v.tree; encodes = v.encodes; deep = v.deep }));
      }
  was_said (Err r) w = tt

  -- what was found stood there
  pub said : {e : Entry} {c : Cursor} → entry_at kind s at ≡ got_to e c → Said kind s at e
  said h = rw h at (was_said (entry_at kind s at) (entry_told kind s at))
