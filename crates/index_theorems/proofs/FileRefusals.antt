-- The index of a file's image is refused where, and with what, the writing of that file is.
use Rattle.std.specs.Prelude.{◌+◌, ◌≤◌, ◌<◌, ◌≡◌, ◌≢◌, Some, None}
use Rattle.wire.proofs.Kit.{ℕ, zero, suc, refl, List, false, arith, leb, eqb, length, le-leb, leb-true}
use Rattle.wire.specs.Choice.{pick}
use Rattle.wire.specs.Limit as limit
use Rattle.wire.specs.Number.{Bytes}
use Rattle.wire.specs.declared.cursor.Cursor.{Cursor}
use Rattle.image.specs.declared.record.Record.{Record}
use Rattle.image.specs.declared.record.Record.TheVariants as R
use Rattle.image.specs.Kind as kind
use Rattle.image.specs.Record.{layout_of}
use Rattle.image.specs.Taking.{record_at, Taken, taken_to}
use Rattle.image.specs.Out.{Out, end, stop, put, ◌>>=◌, row, named_at, row_bytes}
use Rattle.image.proofs.Pouring.{named_none}
use Rattle.amf0.specs.Writing.{taken, value as written, whole}
use Rattle.lso.specs.Writing.{keying, zero_byte, element, body, file, length_of}
use Rattle.index.specs.declared.walk.Rest.TheVariants.{Body}
use Rattle.index.specs.declared.walk.Role.{Role}
use Rattle.index.specs.Mark.{mark, mark_bytes}
use Rattle.index.specs.Index.{root_of, keys_of}
use Rattle.index.specs.Keys.{role_of, key_by, key_in, pair_at, turn_of, turned, rest, value}
use Rattle.index_theorems.proofs.Refusals.{Alike, behind, both, cases, Ahead, alike_value, answer_of, same_answer, refused_alike}

-- what a record is to the two
abbrev Neither : Record → Type 0
Neither r = (eqb (layout_of r).kind kind.key ≡ false) × (eqb (layout_of r).kind kind.lso ≡ false)

data Kin : Record → Role → Type 0 where
  k_key : {p n : ℕ} → Kin (R.Key p n) (Role.Key p n)
  k_file : {l p n : ℕ} → Kin (R.Lso l p n) (Role.File p n)
  k_value : {r : Record} {p n : ℕ} {f : _} → Neither r → Kin r (Role.Value p n f)
  k_end : {r : Record} → Neither r → Kin r Role.End
  k_other : {r : Record} → Neither r → Kin r Role.Other

kin : (r : Record) → Kin r (role_of r)
kin (R.Number n) = Kin.k_value (refl, refl)
kin (R.Boolean b) = Kin.k_value (refl, refl)
kin (R.Text p n) = Kin.k_value (refl, refl)
kin R.Object = Kin.k_value (refl, refl)
kin R.Null = Kin.k_value (refl, refl)
kin R.Undefined = Kin.k_value (refl, refl)
kin (R.Reference n) = Kin.k_value (refl, refl)
kin (R.EcmaArray n) = Kin.k_value (refl, refl)
kin R.ObjectEnd = Kin.k_end (refl, refl)
kin (R.StrictArray n) = Kin.k_value (refl, refl)
kin (R.Date n present zone) = Kin.k_value (refl, refl)
kin R.Unsupported = Kin.k_value (refl, refl)
kin (R.Xml p n) = Kin.k_value (refl, refl)
kin (R.TypedObject p n) = Kin.k_value (refl, refl)
kin (R.Key p n) = Kin.k_key
kin (R.Packet h m) = Kin.k_other (refl, refl)
kin (R.Header p n f) = Kin.k_other (refl, refl)
kin (R.Message p n q m) = Kin.k_other (refl, refl)
kin (R.Lso l p n) = Kin.k_file

module _ (image s : List ℕ) (known : Bytes image) where
  -- a value, and the zero behind it
  zeroed : ℕ → ℕ → Out
  zeroed at q = written 32 image s q >>= λ e. row s zero_byte at (end e)

  tail : {P : ℕ → Type 0} {d e : Out} (k : ℕ → Out) (b : List ℕ) → ((n : ℕ) → k n ≡ put b (end n)) → Alike P d e → Alike P d (e >>= k)
  tail k b f (Alike.ends {n} p) = rw (f n) (Alike.aft (Alike.ends p))
  tail k b f Alike.stops = Alike.stops
  tail k b f (Alike.fore a) = Alike.fore (tail k b f a)
  tail k b f (Alike.aft a) = Alike.aft (tail k b f a)

  alike_zeroed : (at q : ℕ) → q ≤ length image → Alike (Ahead image s known q) (value 32 image s q) (zeroed at q)
  unfolding zeroed row
  alike_zeroed at q h =
      tail (λ e. row s zero_byte at (end e)) (row_bytes s zero_byte) (λ n. rw (named_none s))
      (alike_value image s known 32 q h)

  -- at the image's end
  AtEnd : ℕ → Type 0
  AtEnd n = length image ≤ n

  alike_body : (f g at : ℕ) → at ≤ length image → length image < f + at → length image ≤ g + at
      → Alike AtEnd (rest (value 32 image s) image s 0 1 f Body at) (body image s g at)
  unfolding rest turn_of pair_at body element zeroed Ahead AtEnd row
  alike_body zero g at h m l = absurd (omega arith)
  alike_body (suc f) zero at h m l = rw (le-leb (length image) at (omega arith)) (Alike.ends {n = at} (omega arith))
  alike_body (suc f) (suc g) at h m l =
      cases (leb (length image) at)
      (λ t. rw t (Alike.ends {n = at} (leb-true (length image) at t)))
      (λ t. rw t (go (record_at image at) refl (λ n b. alike_body f g n b.1 (omega arith) (omega arith))))
    where
      by : (r : Record) (y : Role) (c : Cursor) → at + 1 ≤ c.at → c.at ≤ length image → Kin r y
          → ((n : ℕ) → (at + 1 ≤ n) × (n ≤ length image) → Alike AtEnd (rest (value 32 image s) image s 0 1 f Body n) (body image s g n))
          → Alike AtEnd
          (turned at (key_by s Body false y c) (λ q t. value 32 image s q >>= rest (value 32 image s) image s 0 1 f t)
          (λ q t. put (mark_bytes (mark 1 0 at q)) (value 32 image s q >>= rest (value 32 image s) image s 0 1 f t)))
          (pick (eqb (layout_of r).kind kind.key) (row s (keying (layout_of r).a.number (layout_of r).b.number) at (zeroed at c.at)) (stop 6 at) >>= body image s g)
      by r y c b e (Kin.k_key {p} {n}) more =
          cases (named_at s p n)
          (λ t. rw t
          (Alike.fore (Alike.aft (both (rest (value 32 image s) image s 0 1 f Body) (body image s g) (alike_zeroed at c.at e) (λ m u. more m (omega arith, u.1))))))
          (λ t. rw t Alike.stops)
      by r y c b e Kin.k_file more = Alike.stops
      by r y c b e (Kin.k_value i) more = rw i.0 Alike.stops
      by r y c b e (Kin.k_end i) more = rw i.0 Alike.stops
      by r y c b e (Kin.k_other i) more = rw i.0 Alike.stops

      go : (t : Taken) → record_at image at ≡ t
          → ((n : ℕ) → (at + 1 ≤ n) × (n ≤ length image) → Alike AtEnd (rest (value 32 image s) image s 0 1 f Body n) (body image s g n))
          → Alike AtEnd
          (turned at (key_in s Body false t) (λ q y. value 32 image s q >>= rest (value 32 image s) image s 0 1 f y)
          (λ q y. put (mark_bytes (mark 1 0 at q)) (value 32 image s q >>= rest (value 32 image s) image s 0 1 f y)))
          ((taken at t λ r q.
          pick (eqb (layout_of r).kind kind.key) (row s (keying (layout_of r).a.number (layout_of r).b.number) at (zeroed at q)) (stop 6 at)) >>= body image s g)
      go (Some x) e more = let p = behind image known at x.0 x.1 e in by x.0 (role_of x.0) x.1 p.from p.fits (kin x.0) more
      go None e more = Alike.stops

  abbrev Any : ℕ → Type 0
  Any n = Unit {0}

  -- a walk that ends at the image's end passes the check for bytes past the end
  checked : {d e : Out} → Alike AtEnd d e → Alike Any (d >>= λ n. pick (leb (length image) n) (end n) (stop 6 n)) e
  unfolding AtEnd
  checked (Alike.ends {n} p) = rw (le-leb (length image) n p) (Alike.ends tt)
  checked Alike.stops = Alike.stops
  checked (Alike.fore a) = Alike.fore (checked a)
  checked (Alike.aft a) = Alike.aft (checked a)

  -- an image that begins with a file's record
  pub file_keys_alike : (says : ℕ → ℕ → ℕ) (stored p n : ℕ) (c : Cursor) → record_at image 0 ≡ taken_to (R.Lso stored p n) c
      → Alike Any (keys_of image s) (file says image s)
  unfolding keys_of root_of file row
  file_keys_alike says stored p n c e =
      let b = behind image known 0 (R.Lso stored p n) c e in
      cases (named_at s p n)
      (λ t. rw (e, t, named_none s)
      (Alike.aft (Alike.aft (Alike.aft (checked (alike_body (suc (length image)) (length image) c.at b.fits (omega arith) (omega arith)))))))
      (λ t. rw (e, t, named_none s) (Alike.aft Alike.stops))

  pub file_refused_alike : (says : ℕ → ℕ → ℕ) (stored p n : ℕ) (c : Cursor) → record_at image 0 ≡ taken_to (R.Lso stored p n) c
      → answer_of (keys_of image s) ≡ answer_of (file says image s)
  file_refused_alike says stored p n c e = same_answer (file_keys_alike says stored p n c e)

-- ---- any image

module _ (image s : List ℕ) where
  abbrev pub writing_in : Taken → Out
  writing_in (Some x) = pick (eqb (layout_of x.0).kind kind.lso) (file length_of image s) (whole image (written limit.levels image s 0))
  writing_in None = whole image (written limit.levels image s 0)

  -- the writing of an image: that of a file, where the first record is a file's, else that of a value
  unfoldable pub writing_of : Out
  writing_of = writing_in (record_at image 0)

-- whatever an image is, its index is refused with the answer with which its writing is
pub refused_as_written : (image s : List ℕ) → Bytes image → answer_of (keys_of image s) ≡ answer_of (writing_of image s)
unfolding writing_of root_of
refused_as_written image s known = go (record_at image 0) refl
  where
    by : (r : Record) (c : Cursor) → record_at image 0 ≡ taken_to r c → (y : Role) → role_of r ≡ y → Kin r y
        → answer_of (keys_of image s) ≡ answer_of (writing_in image s (taken_to r c))
    by r c e y g (Kin.k_file {l} {p} {n}) = same_answer (file_keys_alike image s known length_of l p n c e)
    by r c e y g Kin.k_key = refused_alike image s known (rw e refl)
    by r c e y g (Kin.k_value i) = rw i.1 (refused_alike image s known (rw (e, g) refl))
    by r c e y g (Kin.k_end i) = rw i.1 (refused_alike image s known (rw (e, g) refl))
    by r c e y g (Kin.k_other i) = rw i.1 (refused_alike image s known (rw (e, g) refl))

    go : (t : Taken) → record_at image 0 ≡ t → answer_of (keys_of image s) ≡ answer_of (writing_in image s t)
    go (Some x) e = by x.0 x.1 e (role_of x.0) refl (kin x.0)
    go None e = refused_alike image s known (rw e refl)

-- A writing as a file that is not refused with 6 goes as the index does: then a file's record is in front.
pub refused_as_file : (image s : List ℕ) → Bytes image → (says : ℕ → ℕ → ℕ) → answer_of (file says image s) ≢ 6
    → answer_of (keys_of image s) ≡ answer_of (file says image s)
unfolding file answer_of
refused_as_file image s known says ne = go (record_at image 0) refl
  where
    by : (r : Record) (c : Cursor) → record_at image 0 ≡ taken_to r c → (y : Role) → Kin r y → answer_of (keys_of image s) ≡ answer_of (file says image s)
    by r c e y (Kin.k_file {l} {p} {n}) = same_answer (file_keys_alike image s known says l p n c e)
    by r c e y Kin.k_key = absurd (ne (rw e refl))
    by r c e y (Kin.k_value i) = absurd (ne (rw (e, i.1) refl))
    by r c e y (Kin.k_end i) = absurd (ne (rw (e, i.1) refl))
    by r c e y (Kin.k_other i) = absurd (ne (rw (e, i.1) refl))

    go : (t : Taken) → record_at image 0 ≡ t → answer_of (keys_of image s) ≡ answer_of (file says image s)
    go (Some x) e = by x.0 x.1 e (role_of x.0) (kin x.0)
    go None e = absurd (ne (rw e refl))
