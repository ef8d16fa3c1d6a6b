-- What the public write comes to: a refusal is 5 or 6, or for a size or the room.
use Rattle.std.specs.Prelude.{◌<◌, ◌≡◌}
use Rattle.wire.proofs.Kit.{ℕ, zero, suc, List, length, leb}
use Rattle.wire.specs.Number.{Bytes}
use Rattle.wire.specs.Limit as limit
use Rattle.wire.proofs.Laws.{picked}
use Rattle.image.specs.Kind as kind
use Rattle.image.specs.Out.{end, row}
use Rattle.amf0.specs.Writing.{top_value}
use Rattle.amf0_theorems.proofs.WriteReasons.{Refuses, bind_refuses, asked_refuses, row_refuses, value_refuses, stops_deep, call_reasons}
use Rattle.amf0_theorems.proofs.WriteOutcome.{puts_bytes}
use Rattle.lso.specs.File.{Lso, deepest}
use Rattle.lso.specs.Writing.{element, body, file, length_of, write_of, keying}
use Rattle.lso.specs.Written.{write, Images, Writable}
use Rattle.lso_theorems.specs.Unwritten.{Refused, Outcome}
use Rattle.lso_theorems.proofs.Puts.{file_puts, write_puts}
use Rattle.lso_theorems.proofs.WriteSound.{image_of}
use Rattle.lso_theorems.proofs.WriteRefusal.{refused_by}
use Rattle.lso_theorems.proofs.WriteRefusing.{refuses_by}
use Rattle.lso.proofs.Putting.{padded, filing}

-- ---- a refusal's answer

module _ (s image : List ℕ) where
  element_refuses : (at : ℕ) → Refuses (element image s at)
  unfolding element
  element_refuses at =
      asked_refuses image kind.key at (λ l q. row s (keying l.a.number l.b.number) at (padded image s at q)) λ l q. row_refuses s image _ at _
      (bind_refuses (top_value image s q) _ (value_refuses s image limit.levels q) λ e. row_refuses s image _ at (end e) tt)

  body_refuses : (fuel at : ℕ) → Refuses (body image s fuel at)
  unfolding body
  body_refuses zero at = tt
  body_refuses (suc fuel) at =
      picked Refuses (leb (length image) at) (end at) _ (λ h. tt)
      (λ h. bind_refuses (element image s at) (body image s fuel) (element_refuses at) (body_refuses fuel))

  pub file_refuses : (says : ℕ → ℕ → ℕ) → Refuses (file says image s)
  unfolding file
  file_refuses says =
      asked_refuses image kind.lso 0 (filing says image s) λ l q.
      row_refuses s image _ 0 _ (row_refuses s image _ 0 _ (row_refuses s image _ 0 _ (body_refuses (length image) q)))

-- ---- the call

-- the image of a file is refused with 5 at most
pub refused_image : (image s : List ℕ) (a p : ℕ) (f : Lso) → Bytes image → Refused image s a p → Images s f image → (a ≡ 5) × (limit.levels < deepest f.body)
refused_image image s a p f bs x m = stops_deep (file_puts s image m {D = limit.levels < deepest f.body} (λ l. l)) a p (refuses_by s image bs length_of a p x)

pub reasons : (image s : List ℕ) (room : ℕ) → Bytes image → Outcome image s room (write_of image s room)
reasons image s room bs =
    call_reasons image s room (file length_of image s) (file_refuses s image length_of) (Writable image s) write (Refused image s)
    (λ h i n e.
    let x = image_of s image bs n e in
    (x.0, record { text_size = h; image_size = i; images = x.1; deep = x.2 }, puts_bytes (write_puts s image x.1 x.2)))
    (refused_by s image bs length_of)
