-- No image is that of two packets, but for the lengths that their entries declare, which it does not tell.
use Rattle.std.specs.Prelude.{◌+◌, ◌≤◌, ◌≡◌, ◌∷◌, ◌++◌}
use Rattle.wire.proofs.Kit.{ℕ, max, refl, sym, ap, ◌∙◌, List, [], map, append-nil, Bool, arith, length}
use Rattle.wire.specs.Limit as limit
use Rattle.wire.proofs.Stands.{Here, cut, skip}
use Rattle.image.specs.declared.record.Record.{Record}
use Rattle.image.specs.Record.{size}
use Rattle.image.specs.Taking.{Fits}
use Rattle.image.specs.Out.{Out}
use Rattle.amf0.specs.Standard.{Sort, Tree, depth}
use Rattle.amf0.specs.Shown.{laid, Right}
use Rattle.amf0.specs.Writing.{value}
use Rattle.amf0.specs.Written as amf0
use Rattle.amf0.specs.Written.Lead.{keyed}
use Rattle.amf0_theorems.proofs.Puts.{Puts, first, others, puts, laid_append, laid_length, laid_size}
use Rattle.amf0_theorems.proofs.WriteOutcome.{puts_bytes}
use Rattle.amf0_theorems.proofs.WriteSound.{Ends}
use Rattle.amf0_theorems.proofs.Shortest.{encoded}
use Rattle.amf0_theorems.proofs.Theorems.{unique}
use Rattle.packet.specs.Packet.{Label, Item, Packet}
use Rattle.amf0_theorems.proofs.WriteRefusal.{ends_once}
use Rattle.packet.specs.Shown.{counts}
use Rattle.packet.specs.Written.{saying_item, saying, Spells, Images}
use Rattle.packet_theorems.proofs.Items.{names_one}
use Rattle.wire.proofs.Same.{some_first}

-- ---- a writing ends at one place

puts_ends : {d : Out} {x : List ℕ} {n : ℕ} → Puts ⊥ d x n → Ends d n
puts_ends Puts.done = refl
puts_ends (Puts.more p) = puts_ends p
puts_ends (Puts.shut e) = absurd e

-- ---- a value

module _ (s image : List ℕ) where
  value_one : {v w : Tree Sort.value} {rs us : List Record} → amf0.Spells s keyed Sort.value v rs → Right s rs → amf0.Spells s keyed Sort.value w us → Right s us
      → (x y : List ℕ) (at : ℕ) → Here image at (laid rs) x → Here image at (laid us) y → length (laid rs) ≤ limit.image → length (laid us) ≤ limit.image
      → (v ≡ w) × (length (laid rs) ≡ length (laid us))
  value_one {v} {w} {rs} {us} a g b h x y at i j l m =
      let left : ℕ = max (depth v) (depth w) in
      let d : Out = value left image s at in
      let p : Puts ⊥ d (amf0.write v) (at + length (laid rs)) =
      puts s image a g x at (at + length (laid rs)) left (length (laid rs)) i refl (λ t. omega arith) (omega arith) in
      let q : Puts ⊥ d (amf0.write w) (at + length (laid us)) =
      puts s image b h y at (at + length (laid us)) left (length (laid us)) j refl (λ t. omega arith) (omega arith) in
      let same : amf0.write v ≡ amf0.write w = sym (puts_bytes p) ∙ puts_bytes q in
      let n : at + length (laid rs) ≡ at + length (laid us) = ends_once d (at + length (laid rs)) (at + length (laid us)) (puts_ends p) (puts_ends q) in
      ((unique v w (amf0.write v) (amf0.write w) [] [] (encoded a g (omega arith)) (encoded b h (omega arith)) (ap (λ z. z ++ []) same)).0, omega arith)

  -- the record at a place
  record_one : (a b : Record) (rs us : List Record) (x y : List ℕ) (at : ℕ) → Fits a → Fits b → Here image at (laid (a ∷ rs)) x
      → Here image at (laid (b ∷ us)) y → a ≡ b
  record_one a b rs us x y at f g h i = some_first (sym (first s image a rs x h f) ∙ first s image b us y i g)

  -- ---- entries in a row

  module _ (exact : Bool) where
    items_one : {Kind : Label → Type 0} {is js : List Item} {rs us : List Record} → Spells s Kind is rs → Spells s Kind js us → length is ≡ length js
        → (x y : List ℕ) (at : ℕ) → Here image at (laid rs) x → Here image at (laid us) y → length (laid rs) ≤ limit.image → length (laid us) ≤ limit.image
        → (map (saying_item exact) is ≡ map (saying_item exact) js) × (length (laid rs) ≡ length (laid us))
    items_one Spells.none Spells.none c x y at h i m n = (refl, refl)
    items_one Spells.none (Spells.more t f k g v p) c x y at h i m n = absurd (omega arith)
    items_one (Spells.more t f k g v p) Spells.none c x y at h i m n = absurd (omega arith)
    items_one (Spells.more {l = l} {d = d} {v = v} {is = is} {r = r} {rs = rs} {qs = qs} t f k g a p)
        (Spells.more {l = l'} {d = d'} {v = v'} {is = is'} {r = r'} {rs = rs'} {qs = qs'} t' f' k' g' a' p') c x y at h i m n =
        let same : r ≡ r' = record_one r r' (rs ++ qs) (rs' ++ qs') x y at f f' h i in
        let z : ℕ = at + size r in
        let lr = laid_size r (rs ++ qs) in
        let lr' = laid_size r' (rs' ++ qs') in
        let ll = laid_length rs qs in
        let ll' = laid_length rs' qs' in
        let j : Here image z (laid rs ++ laid qs) x = rw (laid_append rs qs) at (others s image r (rs ++ qs) x h) in
        let j' : Here image z (laid rs' ++ laid qs') y = rw same (rw (laid_append rs' qs') at (others s image r' (rs' ++ qs') y i)) in
        let o = value_one a g a' g' (laid qs ++ x) (laid qs' ++ y) z (cut (laid rs) (laid qs) j) (cut (laid rs') (laid qs') j') (omega arith) (omega arith) in
        let next' : Here image (z + length (laid rs)) (laid qs') y = rw o.1 (skip (laid rs') (laid qs') j') in
        let u = items_one p p' (omega arith) x y (z + length (laid rs)) (skip (laid rs) (laid qs) j) next' (omega arith) (omega arith) in
        let sizes : size r ≡ size r' = ap size same in
        let label : l ≡ l' = names_one k k' same in
        (rw (label, o.0, u.0), omega (arith, o.1, u.1))

-- ---- the packet

pub images_one : {s image : List ℕ} {p q : Packet} (exact : Bool) → length image ≤ limit.image → Images s p image → Images s q image
    → saying exact p ≡ saying exact q
images_one {s} {image} {p} {q} exact l m n =
    let hs : List Record = m.header_records in
    let ms : List Record = m.message_records in
    let hs' : List Record = n.header_records in
    let ms' : List Record = n.message_records in
    let h : Here image 0 (laid (counts p ∷ (hs ++ ms))) [] = record { same = m.lies ∙ sym (append-nil _) } in
    let h' : Here image 0 (laid (counts q ∷ (hs' ++ ms'))) [] = record { same = n.lies ∙ sym (append-nil _) } in
    let same : counts p ≡ counts q = record_one s image (counts p) (counts q) (hs ++ ms) (hs' ++ ms') [] [] 0 m.fits n.fits h h' in
    let z : ℕ = 0 + size (counts p) in
    let lr = laid_size (counts p) (hs ++ ms) in
    let lr' = laid_size (counts q) (hs' ++ ms') in
    let ll = laid_length hs ms in
    let ll' = laid_length hs' ms' in
    let a = ap length m.lies in
    let a' = ap length n.lies in
    let j : Here image z (laid hs ++ laid ms) [] = rw (laid_append hs ms) at (others s image (counts p) (hs ++ ms) [] h) in
    let j' : Here image z (laid hs' ++ laid ms') [] = rw same (rw (laid_append hs' ms') at (others s image (counts q) (hs' ++ ms') [] h')) in
    let ch : length p.headers ≡ length q.headers = cc in
    let cm : length p.messages ≡ length q.messages = cc in
    let o = items_one s image exact m.headers n.headers ch (laid ms ++ []) (laid ms' ++ []) z
    (cut (laid hs) (laid ms) j) (cut (laid hs') (laid ms') j') (omega arith) (omega arith) in
    let next' : Here image (z + length (laid hs)) (laid ms') [] = rw o.1 (skip (laid hs') (laid ms') j') in
    let u = items_one s image exact m.messages n.messages cm [] [] (z + length (laid hs)) (skip (laid hs) (laid ms) j) next'
    (omega arith) (omega arith) in
    rw (o.0, u.0)
