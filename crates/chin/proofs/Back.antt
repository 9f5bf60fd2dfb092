-- There and back gives the starting bytes, and lengths agree.
use Prim.Native.Nat.{ℕ, ◌+◌}
use native.Mathlib.Omega.{arith}
use mathlib.Core.Path.{◌≡◌, refl, sym, ap, ◌∙◌}
use lib.ListN.{length}
use Rattle.definition.specs.Basic.{Bytes}
use Rattle.definition.specs.Bytecode.{Image}
use Rattle.definition.specs.Decode.{Decoded, decoded, malformed}
use Rattle.definition.specs.Valid.{AreBytes}
use Rattle.bytecode.specs.declared.Form.{Form}
use Rattle.bytecode.specs.declared.Form.TheVariants.{Plain, Chin}
use Rattle.bytecode.specs.Form.{image_in, read_form}
use Rattle.chin.specs.Turn.{Jump, Made, made, stopped, turn_image}
use Rattle.chin.specs.Chin.{given, wrote, turn, translate, to_chin, from_chin}
use Rattle.chin.proofs.Forms.{read-form, write-form, image-length}
use Rattle.chin.proofs.Operands.{Returns, distance_returns, target_returns}
use Rattle.chin.proofs.Turns.{turn-image, image_back}

-- what a translation that was not refused went through
record Through (from to : Form) (jump : Jump) (b c : Bytes) : Type 0 where
  image : Image
  end : ℕ
  read : read_form from b ≡ decoded image end
  other : Image
  turned : turn_image jump image ≡ made other
  bytes : image_in to other ≡ c

through : (from to : Form) (jump : Jump) (b c : Bytes) → translate from to jump b ≡ given c → Through from to jump b c
unfolding translate
through from to jump b c e = go (read_form from b) refl e
  where
    wrote-given : (m : Image) (n : ℕ) → read_form from b ≡ decoded m n → (o : Made Image) → turn_image jump m ≡ o → wrote to o ≡ given c → Through from to jump b c
    wrote-given m n h (made o) k e = record { image = m; end = n; read = h; other = o; turned = k; bytes = cc }
    wrote-given m n h (stopped p) k e = let z : ◌≡◌ {A = ℕ} 0 1 = cc in absurd (omega arith)

    go : (d : Decoded Image) → read_form from b ≡ d → turn to jump d ≡ given c → Through from to jump b c
    go (decoded m n) h e = wrote-given m n h (turn_image jump m) refl e
    go (malformed p) h e = let z : ◌≡◌ {A = ℕ} 0 1 = cc in absurd (omega arith)

module _ {f g : Jump} (r : Returns f g) (from to : Form) {b c : Bytes} (a : AreBytes b) (e : translate from to f b ≡ given c) where
  -- the other form is as long
  same_length : length c ≡ length b
  same_length =
      let t = through from to f b c e in
      let w = write-form from b a t.read in
      let s = turn-image r w.sound t.turned in
      ap length (sym t.bytes) ∙ image-length to t.other ∙ (λ i. 6 + s.code i + s.pool i) ∙ sym (image-length from t.image) ∙ ap length w.bytes

  -- and its translation is where it came from
  and_back : translate to from g c ≡ given b
  unfolding translate
  and_back =
      let t = through from to f b c e in
      let w = write-form from b a t.read in
      let s = turn-image r w.sound t.turned in
      (λ i. turn from g ((ap (read_form to) (sym t.bytes) ∙ read-form to t.other s.valid) i))
      ∙ ap (wrote from) (image_back r w.sound t.turned)
      ∙ ap given w.bytes

-- An image into the chin form and back
pub to_chin_and_back : (b c : Bytes) → AreBytes b → to_chin b ≡ given c → from_chin c ≡ given b
to_chin_and_back b c a e = and_back distance_returns Plain Chin a e

-- The chin form into an image and back
pub from_chin_and_back : (b c : Bytes) → AreBytes b → from_chin b ≡ given c → to_chin c ≡ given b
from_chin_and_back b c a e = and_back target_returns Chin Plain a e

-- Lengths agree
pub to_chin_length : (b c : Bytes) → AreBytes b → to_chin b ≡ given c → length c ≡ length b
to_chin_length b c a e = same_length distance_returns Plain Chin a e

pub from_chin_length : (b c : Bytes) → AreBytes b → from_chin b ≡ given c → length c ≡ length b
from_chin_length b c a e = same_length target_returns Chin Plain a e
