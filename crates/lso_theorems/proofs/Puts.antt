-- The image of a file is put out as what the file is written as.
use Rattle.std.specs.Prelude.{◌+◌, ◌≤◌, ◌<◌, ◌≡◌, ◌∷◌, ◌++◌}
use Rattle.wire.proofs.Kit.{ℕ, zero, suc, refl, sym, ap, ◌∙◌, List, [], append_assoc, append-nil, arith, length, take, drop}
use Rattle.wire.specs.Number.{digits, number}
use Rattle.wire.specs.Field.{bytes_at}
use Rattle.wire.specs.Limit as limit
use Rattle.wire.proofs.Laws.{pick_yes, pick_no}
use Rattle.wire.proofs.Stands.{Here, cut, skip, length_bytes}
use Rattle.image.specs.declared.record.Record.{Record}
use Rattle.image.specs.declared.record.Record.TheVariants as R
use Rattle.image.specs.Record.{◌bytes◌, none, size}
use Rattle.image.specs.Out.{Out, end, ◌>>=◌, row, bytes as put_out_lem, sized}
use Rattle.image.proofs.Laws.{size_some}
use Rattle.amf0.specs.Standard.{Sort, Tree, depth}
use Rattle.amf0.specs.Shown.{laid, Right}
use Rattle.amf0.specs.Written as amf0
use Rattle.amf0.specs.Written.Lead.{keyed}
use Rattle.amf0_theorems.proofs.Puts.{Puts, then, empty, row_puts, first, others, puts, laid_append, laid_length, laid_size, right_left, right_right}
use Rattle.amf0_theorems.proofs.WriteOutcome.{puts_bytes, puts_settled}
use Rattle.lso.specs.File.{Body, Lso, version, signature, padding, deepest}
use Rattle.lso.specs.Writing.{zero_byte, element, body, file, length_of, write_of}
use Rattle.lso.specs.Written.{short, write_body, write, Spells, Images, Writable}

module _ (s : List ℕ) where
  -- ---- elements

  module _ (image : List ℕ) where
    pub element_puts : {D : Type 0} {p n : ℕ} {k z : List ℕ} {v : Tree Sort.value} {rs : List Record} (qs : List Record) (at : ℕ) → bytes_at n s p ≡ k
        → amf0.Spells s keyed Sort.value v rs → Right s (R.Key p n ∷ (rs ++ qs)) → Here image at (laid (R.Key p n ∷ (rs ++ qs))) z → (limit.levels < depth v → D)
        → Puts D (element image s at) (short k ++ (amf0.write v ++ (0 ∷ []))) (at + size (R.Key p n) + length (laid rs))
    unfolding element
    element_puts {p} {n} {k} {z} {v} {rs} qs at e c g h d =
        let r : Record = R.Key p n in
        let q : ℕ = at + size r in
        let j : Here image q (laid rs ++ laid qs) z = rw (laid_append rs qs) at (others s image r (rs ++ qs) z h) in
        let same : length k ≡ n = rw e at (length_bytes n s p g.1.0.inside) in
        let x = puts s image c (right_left s rs qs g.2) (laid qs ++ z) q (q + length (laid rs)) limit.levels (length (laid rs))
        (cut (laid rs) (laid qs) j) refl d (omega arith) in
        rw (first s image r (rs ++ qs) z h g.0, same, sym e)
        (row_puts s at none (2 bytes n) none g.1.0
        (then (λ m. row s zero_byte at (end m)) x (row_puts s at (1 bytes 0) none none (empty s) Puts.done)))

    body_puts : {D : Type 0} {b : Body} {rs : List Record} → Spells s b rs → Right s rs → (fuel at : ℕ) → Here image at (laid rs) []
        → length image ≡ at + length (laid rs) → length (laid rs) ≤ fuel → (limit.levels < deepest b → D) → Puts D (body image s fuel at) (write_body b) (length image)
    unfolding body
    body_puts Spells.none g zero at h l f d = let e : length image ≡ at = omega arith in rw e Puts.done
    body_puts Spells.none g (suc fuel) at h l f d =
        let e : length image ≡ at = omega arith in
        rw (pick_yes (length image) at (end at) (element image s at >>= body image s fuel) (omega arith), e) Puts.done
    body_puts (Spells.element {p} {n} {rs} {qs} e c t) g zero at h l f d =
        absurd (omega (arith, size_some (R.Key p n), laid_size (R.Key p n) (rs ++ qs)))
    body_puts (Spells.element {p} {n} {k} {v} {b} {rs} {qs} e c t) g (suc fuel) at h l f d =
        let r : Record = R.Key p n in
        let m : ℕ = at + size r + length (laid rs) in
        let o = laid_size r (rs ++ qs) in
        let w = laid_length rs qs in
        let i = size_some r in
        let j : Here image (at + size r) (laid rs ++ laid qs) [] = rw (laid_append rs qs) at (others s image r (rs ++ qs) [] h) in
        let same : (short k ++ (amf0.write v ++ (0 ∷ []))) ++ write_body b ≡ write_body (Body.element k v b) = simp append_assoc in
        rw (pick_no (length image) at (end at) (element image s at >>= body image s fuel) (omega arith), sym same)
        (then (body image s fuel) (element_puts qs at e c g h λ i. d (omega arith))
        (body_puts t (right_right s rs qs g.2) fuel m (skip (laid rs) (laid qs) j) (omega arith) (omega arith) λ i. d (omega arith)))

    module _ {f : Lso} (m : Images s f image) where
      -- the file's record
      abbrev lead : Record
      lead = R.Lso f.stored m.place (length f.name)

      -- the writing of the elements
      abbrev behind : Out
      behind = body image s (length image) (0 + size lead)

      behind_puts : {D : Type 0} → (limit.levels < deepest f.body → D) → Puts D behind (write_body f.body) (length image)
      behind_puts d =
          let h : Here image 0 (laid (lead ∷ m.records)) [] = record { same = m.lies ∙ sym (append-nil _) } in
          let l = laid_size lead m.records in
          let i = ap length m.lies in
          body_puts m.spells m.right (length image) (0 + size lead) (others s image lead m.records [] h) (omega arith) (omega arith) d

      -- a header, and then the elements
      pub file_puts : {D : Type 0} → (limit.levels < deepest f.body → D)
          → Puts D (file length_of image s)
          (version ++ (digits 4 (length_of (length f.name) (length (put_out_lem behind))) ++ (signature ++ (short f.name ++ (padding ++ write_body f.body)))))
          (length image)
      unfolding file
      file_puts d =
          let h : Here image 0 (laid (lead ∷ m.records)) [] = record { same = m.lies ∙ sym (append-nil _) } in
          let z : ℕ = length f.name in
          rw (first s image lead m.records [] h m.fits)
          (rw m.names at
          (row_puts s 0 (2 bytes number version) (4 bytes length_of z (length (put_out_lem behind))) none (empty s)
          (row_puts s 0 (4 bytes number (take 4 signature)) (6 bytes number (drop 4 signature)) (2 bytes z) m.stands
          (row_puts s 0 (4 bytes number padding) none none (empty s) (behind_puts d)))))

      pub write_puts : deepest f.body ≤ limit.levels → Puts ⊥ (file length_of image s) (write f) (length image)
      write_puts d = rw (puts_bytes (behind_puts λ i. omega arith)) at (file_puts {D = ⊥} λ i. omega arith)

-- the call on it is not refused for what it holds
pub file_written : {image s : List ℕ} {f : Lso} (room : ℕ) → Writable image s f → write_of image s room ≡ sized (write f) room
file_written {image} {s} room w =
    pick_yes (length s) limit.bytes _ _ w.text_size
    ∙ (pick_yes (length image) limit.image _ _ w.image_size ∙ puts_settled (write_puts s image w.images w.deep) room)
