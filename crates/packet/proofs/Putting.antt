-- The laws of writing a packet, step by step, and of a length that is set once its value is measured: that the functions' proofs cite.
use Rattle.std.specs.Prelude.{◌+◌, ◌-◌, ◌≤◌, ◌<◌, ◌≡◌, ◌∷◌}
use Rattle.wire.proofs.Kit.{ℕ, zero, suc, refl, sym, ap, ◌∙◌, List, [], Bool, true, false, sub-one, arith, length, set, sets}
use Rattle.wire.proofs.Kit.{set-set, set_comm, length-sets, leb, eqb, leb-true, leb-false}
use Rattle.wire.specs.Choice.{pick}
use Rattle.wire.specs.Number.{digits}
use Rattle.wire.specs.Bytes.{laid}
use Rattle.wire.specs.Limit as limit
use Rattle.wire.specs.declared.cursor.Cursor.{Cursor}
use Rattle.wire.proofs.Laws.{pick_yes, pick_no, picked, laid_room, laid_none, length_laid, set_sets}
use Rattle.image.specs.declared.record.Layout.{Layout}
use Rattle.image.specs.declared.writing.Row.{Row}
use Rattle.image.specs.Kind as kind
use Rattle.image.specs.Record.{◌bytes◌, none}
use Rattle.image.specs.Out.{Out, end, stop, put, ◌>>=◌, row_of, row_bytes, text_of, named_of, row, Poured, poured, pour, bytes as bytes_out, settled, written, unwritten}
use Rattle.image.proofs.Pouring.{length_row, pour_stop}
use Rattle.amf0.specs.Writing.{texted, top_value, asked, whole}
use Rattle.amf0.proofs.Putting.{whole_halt, whole_past, whole_over, whole_full, whole_fits, whole_size}
use Rattle.packet.specs.Carried.{Carried}
use Rattle.packet.specs.Writing.{labelled, label, declared, entry, entries, packet, write_of}
use Rattle.wire.specs.Answer.{denied}
use Rattle.image.specs.Due.{Step, went_to}

-- ---- stores at places apart, and in the same place

-- a run of stores behind another can come first
sets_apart : (l : List ℕ) (i j : ℕ) (a b : List ℕ) → i + length a ≤ j → sets (sets l i a) j b ≡ sets (sets l j b) i a
sets_apart l i j a [] h = refl
sets_apart l i j a (y ∷ b) h =
    ap (λ (k : List ℕ). sets k (suc j) b) (set_sets l i j y a h) ∙ sets_apart (set l j y) i (suc j) a b (omega arith)

-- a store before a run of stores can come first
before_sets : (l : List ℕ) (i j y : ℕ) (a : List ℕ) → i < j → set (sets l j a) i y ≡ sets (set l i y) j a
before_sets l i j y [] h = refl
before_sets l i j y (x ∷ a) h =
    before_sets (set l j x) i (suc j) y a (omega arith)
    ∙ ap (λ (k : List ℕ). sets k (suc j) a) (set_comm l j i x y (λ e. omega arith))

-- a run of stores over another as long
sets_again : (l : List ℕ) (i : ℕ) (a b : List ℕ) → length a ≡ length b → sets (sets l i a) i b ≡ sets l i b
sets_again l i [] [] e = refl
sets_again l i [] (y ∷ b) e = absurd (omega arith)
sets_again l i (x ∷ a) [] e = absurd (omega arith)
sets_again l i (x ∷ a) (y ∷ b) e =
    ap (λ (k : List ℕ). sets k (suc i) b) (before_sets (set l i x) i (suc i) y a (omega arith) ∙ ap (λ (k : List ℕ). sets k (suc i) a) (set-set l i x y))
    ∙ sets_again (set l i y) (suc i) a b (omega arith)

-- the same of rows, with room or without
laid_apart : (a b : List ℕ) (i j : ℕ) (out : List ℕ) → i + length a ≤ j → laid b j (laid a i out) ≡ laid a i (laid b j out)
laid_apart a b i j out h = go (leb (j + length b) (length out)) refl
  where
    go : (t : Bool) → leb (j + length b) (length out) ≡ t → laid b j (laid a i out) ≡ laid a i (laid b j out)
    go true e =
        let r = leb-true (j + length b) (length out) e in
        let k = length-sets out i a in
        let m = length-sets out j b in
        ap (laid b j) (laid_room a i out (omega arith))
        ∙ laid_room b j (sets out i a) (omega arith)
        ∙ sets_apart out i j a b h
        ∙ sym (ap (laid a i) (laid_room b j out r) ∙ laid_room a i (sets out j b) (omega arith))
    go false e =
        let r = leb-false (j + length b) (length out) e in
        let k = length_laid a i out in
        laid_none b j (laid a i out) (omega arith) ∙ sym (ap (laid a i) (laid_none b j out r))

laid_again : (a b : List ℕ) (i : ℕ) (out : List ℕ) → length a ≡ length b → laid b i (laid a i out) ≡ laid b i out
laid_again a b i out h = go (leb (i + length b) (length out)) refl
  where
    go : (t : Bool) → leb (i + length b) (length out) ≡ t → laid b i (laid a i out) ≡ laid b i out
    go true e =
        let r = leb-true (i + length b) (length out) e in
        let k = length-sets out i a in
        ap (laid b i) (laid_room a i out (omega arith)) ∙ laid_room b i (sets out i a) (omega arith) ∙ sets_again out i a b h ∙ sym (laid_room b i out r)
    go false e = let r = leb-false (i + length b) (length out) e in ap (laid b i) (laid_none a i out (omega arith))

-- a row that is laid before all that a writing puts out can be laid after it
pour_apart : (d : Out) (a : List ℕ) (i count : ℕ) (out : List ℕ) → i + length a ≤ count
    → pour d count (laid a i out) ≡ poured (pour d count out).step (laid a i (pour d count out).out)
unfolding pour
pour_apart (end n) a i count out h = refl
pour_apart (stop s p) a i count out h = refl
pour_apart (put b d) a i count out h =
    ap (λ (o : List ℕ). pour d (count + length b) o) (laid_apart a b i count out h) ∙ pour_apart d a i (count + length b) (laid b count out) (omega arith)

-- ---- how a writing that was carried out went

pub pour_step : (d : Out) (count : ℕ) (out o : List ℕ) → (pour d count out).step ≡ (pour d count o).step
unfolding pour
pour_step (end n) count out o = refl
pour_step (stop a p) count out o = refl
pour_step (put b d) count out o = pour_step d (count + length b) (laid b count out) (laid b count o)

module _ {d : Out} {count : ℕ} {out : List ℕ} where
  pub carried : {x : Step} {o : List ℕ} → poured x o ≡ pour d count out → Carried d count out x o
  carried e = record { step = ap (λ (y : Poured). y.step) e; out = λ c n f. ap (λ (y : Poured). y.out) e }

  -- it is refused, whatever then stands in the output
  pub carried_stop : {a p : ℕ} {o : List ℕ} → (pour d count out).step ≡ denied a p → Carried d count out (denied a p) o
  carried_stop e = record { step = sym e; out = λ c n f. let z : ◌≡◌ {A = ℕ} 0 1 = cc in absurd (omega arith) }

  pub went_on : {c : Cursor} {n : ℕ} {o : List ℕ} → Carried d count out (went_to c n) o → poured (went_to c n) o ≡ pour d count out
  went_on {c} {n} {o} w =
      ap (λ (x : Step). poured x o) w.step ∙ ap (λ (l : List ℕ). poured (pour d count out).step l) (w.out c n refl)

  pub halted : {a p : ℕ} {o : List ℕ} → Carried d count out (denied a p) o → poured (denied a p) (pour d count out).out ≡ pour d count out
  halted w = ap (λ (x : Step). poured x (pour d count out).out) w.step

  -- another pass went on, and so does this
  pub again : (z : List ℕ) {x : Step} {o l : List ℕ} {c : Cursor} {n : ℕ} → Carried d count out x o → poured (went_to c n) l ≡ pour d count z → poured x o ≡ pour d count out
  again z {x} {o} {l} {c} {n} w e =
      ap (λ (y : Step). poured y o) w.step
      ∙ ap (λ (k : List ℕ). poured (pour d count out).step k) (w.out c n (w.step ∙ pour_step d count out z ∙ sym (ap (λ (y : Poured). y.step) e)))

pub carried_from : {d e : Out} {j k : ℕ} {out o l : List ℕ} {x : Step} → pour d j out ≡ pour e k o → Carried e k o x l → Carried d j out x l
carried_from p w =
    record { step = w.step ∙ sym (ap (λ (y : Poured). y.step) p); out = λ c n f. w.out c n f ∙ sym (ap (λ (y : Poured). y.out) p) }

-- ---- a length that is set once its value is measured

-- a length's row, and a text's
abbrev pub sizing : ℕ → Row
sizing n = row_of (4 bytes n) none none 0 0

abbrev pub naming : ℕ → ℕ → Row
naming p n = texted none 2 p n

row_digits : (text : List ℕ) (n : ℕ) → row_bytes text (sizing n) ≡ digits 4 n
row_digits text n =
    let e : text_of text (sizing n) ≡ [] = picked (λ (x : List ℕ). x ≡ []) (leb (0 + 0) (length text)) _ _ (λ h. refl) (λ h. refl) in
    rw e

module _ (d : Out) (a b : List ℕ) (e : length a ≡ length b) (at k : ℕ) (out : List ℕ) where
  put_set : {x : Step} {o : List ℕ} → poured x o ≡ pour (put a d) k out → poured x (laid b k o) ≡ pour (put b d) k out
  unfolding pour
  put_set f =
      ap (λ (y : Poured). poured y.step (laid b k y.out)) f
      ∙ sym (pour_apart d b k (k + length a) (laid a k out) (omega arith))
      ∙ ap (λ (l : List ℕ). pour d (k + length a) l) (laid_again a b k out e)
      ∙ ap (λ (n : ℕ). pour d (k + n) (laid b k out)) e

  pick_set : (t : Bool) {c : Cursor} {n : ℕ} {o : List ℕ} → poured (went_to c n) o ≡ pour (pick t (put a d) (stop 6 at)) k out
      → poured (went_to c n) (laid b k o) ≡ pour (pick t (put b d) (stop 6 at)) k out
  pick_set true f = put_set f
  pick_set false f =
      let s = ap (λ (y : Poured). y.step) (f ∙ pour_stop k out 6 at) in
      let z : ◌≡◌ {A = ℕ} 0 1 = cc in
      absurd (omega arith)

  pick_step : (t : Bool) → (pour (pick t (put a d) (stop 6 at)) k out).step ≡ (pour (pick t (put b d) (stop 6 at)) k out).step
  unfolding pour
  pick_step true = ap (λ (n : ℕ). (pour d (k + n) (laid a k out)).step) e ∙ pour_step d (k + length b) (laid a k out) (laid b k out)
  pick_step false = refl

module _ (text : List ℕ) (d : Out) (at m n k : ℕ) (out : List ℕ) where
  same_size : length (row_bytes text (sizing m)) ≡ length (row_bytes text (sizing n))
  same_size = length_row text (sizing m) ∙ sym (length_row text (sizing n))

  -- the four bytes set to another length are what that length is put out as
  pub size_set : {c : Cursor} {t : ℕ} {o : List ℕ} → poured (went_to c t) o ≡ pour (row text (sizing m) at d) k out
      → poured (went_to c t) (laid (digits 4 n) k o) ≡ pour (row text (sizing n) at d) k out
  unfolding row
  size_set {c} {t} {o} e =
      ap (λ (b : List ℕ). poured (went_to c t) (laid b k o)) (sym (row_digits text n))
      ∙ pick_set d (row_bytes text (sizing m)) (row_bytes text (sizing n)) same_size at k out (named_of text (sizing m)) e

  -- either length goes on or stops alike
  pub size_step : (pour (row text (sizing m) at d) k out).step ≡ (pour (row text (sizing n) at d) k out).step
  unfolding row
  size_step = pick_step d (row_bytes text (sizing m)) (row_bytes text (sizing n)) same_size at k out (named_of text (sizing m))

-- ---- an entry

module _ (due : ℕ) (image text : List ℕ) (at : ℕ) where
  -- what follows an entry's name or target: a header's flag, or a message's response
  abbrev pub behind : Layout → ℕ → Out
  behind l z =
      pick (eqb due kind.header) (row text (row_of (1 bytes l.c.number) none none 0 0) at (end z)) (row text (naming l.c.number l.d.number) at (end z))

  -- an entry's label from its record on, and the place behind it
  abbrev pub labelling : Layout → ℕ → Out
  labelling l q = labelled text due at l (end q)

  pub label_asked : label due image text at ≡ asked image due at labelling
  unfolding label
  label_asked = refl

  -- what follows a label
  abbrev pub following : Bool → ℕ → Out
  following exact q = row text (sizing (declared exact (length (bytes_out (top_value image text q))))) at (top_value image text q)

  pub entry_labelled : (exact : Bool) → entry due exact image text at ≡ label due image text at >>= following exact
  unfolding entry
  entry_labelled exact = refl

-- ---- entries in a row

module _ (kind : ℕ) (exact : Bool) (image text : List ℕ) where
  pub entries_done : (k at : ℕ) → k ≤ 0 → entries kind exact image text k at ≡ end at
  unfolding entries
  entries_done zero at h = refl
  entries_done (suc k) at h = absurd (omega arith)

  pub entries_entry : (k at : ℕ) → 0 < k → entries kind exact image text k at ≡ entry kind exact image text at >>= entries kind exact image text (k - 1)
  unfolding entries
  entries_entry zero at h = absurd (omega arith)
  entries_entry (suc k) at h = rw (sub-one (suc k))

-- ---- the packet

-- a zero, the version and the count of headers; the count of messages
abbrev pub heading : ℕ → Row
heading h = row_of (2 bytes 0) (2 bytes h) none 0 0

abbrev pub counting : ℕ → Row
counting m = row_of none (2 bytes m) none 0 0

module _ (exact : Bool) (image text : List ℕ) where
  -- the messages behind the headers
  abbrev pub messages : ℕ → ℕ → Out
  messages m e = row text (counting m) 0 (entries 0x32 exact image text m e)

  -- the headers and the messages
  abbrev pub contents : ℕ → ℕ → ℕ → Out
  contents h m q = entries 0x31 exact image text h q >>= messages m

  abbrev pub packing : Layout → ℕ → Out
  packing l q = row text (heading l.a.number) 0 (contents l.a.number l.b.number q)

  pub packet_asked : packet exact image text ≡ asked image kind.packet 0 packing
  unfolding packet
  packet_asked = refl

-- ---- the call

module _ (image text : List ℕ) (exact : Bool) (room : ℕ) where
  pub write_text : limit.bytes < length text → write_of image text exact room ≡ unwritten 1
  write_text h = pick_no (length text) limit.bytes _ _ h

  module _ (t : length text ≤ limit.bytes) where
    pub write_image : limit.image < length image → write_of image text exact room ≡ unwritten 1
    write_image h = pick_yes (length text) limit.bytes _ _ t ∙ pick_no (length image) limit.image _ _ h

    -- the first of the two passes, on an output z, tells what the call comes to
    module _ (i : length image ≤ limit.image) (z : List ℕ) where
      within : write_of image text exact room ≡ settled (whole image (packet exact image text)) room
      within = pick_yes (length text) limit.bytes _ _ t ∙ pick_yes (length image) limit.image _ _ i

      pub write_halt : {a p : ℕ} {o : List ℕ} → poured (denied a p) o ≡ pour (packet exact image text) 0 z → write_of image text exact room ≡ unwritten a
      write_halt e = within ∙ whole_halt image (packet exact image text) room z e

      module _ {c : Cursor} {n : ℕ} {o : List ℕ} (e : poured (went_to c n) o ≡ pour (packet exact image text) 0 z) where
        pub write_past : c.at < length image → write_of image text exact room ≡ unwritten 6
        write_past h = within ∙ whole_past image (packet exact image text) room z e h

        module _ (h : length image ≤ c.at) where
          pub write_over : limit.bytes < n → write_of image text exact room ≡ unwritten 1
          write_over g = within ∙ whole_over image (packet exact image text) room z e h g

          pub write_full : n ≤ limit.bytes → room < n → write_of image text exact room ≡ unwritten 4
          write_full g f = within ∙ whole_full image (packet exact image text) room z e h g f

          pub write_fits : n ≤ limit.bytes → n ≤ room → write_of image text exact room ≡ written (bytes_out (packet exact image text))
          write_fits g f = within ∙ whole_fits image (packet exact image text) room z e h g f

          pub write_size : n ≡ length (bytes_out (packet exact image text))
          write_size = whole_size image (packet exact image text) room z e h
