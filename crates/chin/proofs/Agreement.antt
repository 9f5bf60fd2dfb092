-- The images of alike series have equally long chin forms, which agree at all but the literals' places, or equal refusals.
use Prim.Native.Nat.{ℕ}
use native.Mathlib.Omega.{arith}
use mathlib.Core.List.{List, [], ◌∷◌, map}
use mathlib.Core.Path.{◌≡◌, refl, sym, ap, subst, subst₂, ◌∙◌}
use Rattle.definition.specs.Basic.{Bytes}
use Rattle.definition.specs.Bytecode.{Image, image_bytes}
use Rattle.definition.specs.Literal.{Mask, image_mask}
use Rattle.definition.specs.Series.{Agree}
use Rattle.definition.specs.Session.{Words, word_list, Session, begun}
use Rattle.definition.specs.Valid.{ValidImage, ValidWords, ValidSession}
use Rattle.definition.specs.Number.{refusal, bad_jump}
use Rattle.definition.specs.Compile.{Outcome, Step, Request, compile, steps}
use Rattle.definition.specs.declared.reason.Refusal.{Refusal}
use Rattle.definition.proofs.Agreement.{erase_image}
use Rattle.definition.proofs.Erase.{Alike}
use Rattle.definition.proofs.Series.{begun_like}
use Rattle.definition.proofs.Steps.{begun-valid, OutcomeLike, SessionLike, like_itself, StepLike, with_shape, compile-valid, compile_like}
use Rattle.bytecode.specs.declared.Form.TheVariants.{Plain, Chin}
use Rattle.bytecode.specs.Form.{image_in, read_form}
use Rattle.chin.specs.Turn.{distance, Made, made, stopped, turn_image}
use Rattle.chin.specs.Chin.{Given, given, refused, wrote, turn, translate, to_chin}
use Rattle.chin.proofs.Rows.{made_once}
use Rattle.chin.proofs.Operands.{distance_returns}
use Rattle.chin.proofs.Turns.{turn-image}
use Rattle.chin.proofs.Forms.{read-form, write_plain}
use Rattle.chin.proofs.Erased.{changed, image_erased}
use Rattle.chin.proofs.Literals.{forms_agree}

-- two answers that do not tell literals apart: equally long, equal but at a mask's places; or one refusal
pub data SameGiven (m : Mask) : Given → Given → Type 0 where
  agreeing : {b c : Bytes} → Agree m b c → SameGiven m (given b) (given c)
  refusing : (r : Refusal) → SameGiven m (refused r) (refused r)

-- what is made of three images that are alike is alike
made_alike : (x y p : Made Image) → changed erase_image x ≡ changed erase_image p → changed erase_image y ≡ changed erase_image p
    → (mask : Mask) → ((n : Image) → p ≡ made n → image_mask n ≡ mask) → SameGiven mask (wrote Chin x) (wrote Chin y)
made_alike (made x) (made y) (made p) e h mask k =
    let r : Alike erase_image x p = record { erased = made_once e } in
    let q : Alike erase_image y p = record { erased = made_once h } in
    SameGiven.agreeing (subst (λ m. Agree m (image_in Chin x) (image_in Chin y)) (k p refl) (forms_agree Chin r q))
made_alike (made x) (stopped b) (made p) e h mask k = let z : ◌≡◌ {A = ℕ} 0 1 = cc in absurd (omega arith)
made_alike (stopped a) y (made p) e h mask k = let z : ◌≡◌ {A = ℕ} 0 1 = cc in absurd (omega arith)
made_alike (made x) y (stopped c) e h mask k = let z : ◌≡◌ {A = ℕ} 0 1 = cc in absurd (omega arith)
made_alike (stopped a) (made y) (stopped c) e h mask k = let z : ◌≡◌ {A = ℕ} 0 1 = cc in absurd (omega arith)
made_alike (stopped a) (stopped b) (stopped c) e h mask k =
    let p : a ≡ c = cc in
    let q : b ≡ c = cc in
    rw (p, q) (SameGiven.refusing (refusal bad_jump c))

-- a valid image's bytes are translated as the image
translate-valid : (m : Image) → ValidImage m → to_chin (image_bytes m) ≡ wrote Chin (turn_image distance m)
unfolding translate
translate-valid m v = ap (turn Chin distance) (ap (read_form Plain) (sym (write_plain m)) ∙ read-form Plain m v)

-- Images that are alike: equally long chin forms that agree at all but the literals' places, which are those of the images; or one refusal
pub alike_images : {x y p : Image} → ValidImage x → ValidImage y → ValidImage p → Alike erase_image x p → Alike erase_image y p
    → SameGiven (image_mask p) (to_chin (image_bytes x)) (to_chin (image_bytes y))
alike_images {x} {y} {p} vx vy vp r q =
    subst₂ (SameGiven (image_mask p)) (sym (translate-valid x vx)) (sym (translate-valid y vy))
    (made_alike (turn_image distance x) (turn_image distance y) (turn_image distance p) (to r) (to q) (image_mask p) (λ n e. (turn-image distance_returns vp e).mask))
  where
    to : {a : Image} → Alike erase_image a p → changed erase_image (turn_image distance a) ≡ changed erase_image (turn_image distance p)
    to {a} r = sym (image_erased distance a) ∙ ap (turn_image distance) r.erased ∙ image_erased distance p

-- beside the shapes' outcome: what two outcomes give in the chin form
pub data ChinAnswers : Outcome → Outcome → Outcome → Type 0 where
  images : {m x y : Image} → SameGiven (image_mask m) (to_chin (image_bytes x)) (to_chin (image_bytes y)) → ChinAnswers (Outcome.accepted m) (Outcome.accepted x) (Outcome.accepted y)
  no_images : (r : Refusal) → ChinAnswers (Outcome.refused r) (Outcome.refused r) (Outcome.refused r)

-- the valid image of an outcome
abbrev pub Valid : Outcome → Type 0
Valid o = (m : Image) → o ≡ Outcome.accepted m → ValidImage m

pub outcomes-alike : {o q p : Outcome} → Valid o → Valid q → Valid p → OutcomeLike o p → OutcomeLike q p → ChinAnswers p o q
outcomes-alike u v w (OutcomeLike.accepted {x = x} {y = m} r) (OutcomeLike.accepted {x = y} k) = ChinAnswers.images (alike_images (u x refl) (v y refl) (w m refl) r k)
outcomes-alike u v w (OutcomeLike.refused r) (OutcomeLike.refused _) = ChinAnswers.no_images r

-- requests of equal lengths whose trees have equal shapes
pub data AlikeRequests : List Request → List Request → Type 0 where
  none : AlikeRequests [] []
  more : {c d : Request} {cs ds : List Request} → with_shape c ≡ with_shape d → AlikeRequests cs ds → AlikeRequests (c ∷ cs) (d ∷ ds)

-- step by step, in two whole series
pub data ChinSeries : List Step → List Step → List Step → Type 0 where
  done : ChinSeries [] [] []
  step : {p x y : Step} {ps xs ys : List Step} → ChinAnswers p.outcome x.outcome y.outcome → ChinSeries ps xs ys → ChinSeries (p ∷ ps) (x ∷ xs) (y ∷ ys)

series_from : {compared : Type 0} {cs ds : List Request} → AlikeRequests cs ds → (x y p : Session) → ValidSession x → ValidSession y → ValidSession p → SessionLike compared x p → SessionLike compared y p
    → ChinSeries (steps p (map with_shape cs)) (steps x cs) (steps y ds)
series_from none x y p vx vy vp e f = ChinSeries.done
series_from {compared} (more {c = c} {d} a rest) x y p vx vy vp e f =
    let u = compile-valid x vx c in
    let v = compile-valid y vy d in
    let w = compile-valid p vp (with_shape c) in
    let l = compile_like e c in
    let k : StepLike compared (compile y d) (compile p (with_shape c)) = subst (λ m. StepLike compared (compile y d) (compile p m)) (sym a) (compile_like f d) in
    ChinSeries.step (outcomes-alike u.image v.image w.image l.outcome k.outcome)
    (series_from rest (compile x c).session (compile y d).session (compile p (with_shape c)).session u.session v.session w.session l.session k.session)

-- Two series from sessions of equal words, of equal lengths and shapes call by call: where one step is accepted so is the other, and the chin forms of its two images
-- are equally long and agree at all but the literals' places, or are refused alike
pub chin_series : (u v : Words) → ValidWords u → ValidWords v → word_list u ≡ word_list v → (cs ds : List Request) → AlikeRequests cs ds
    → ChinSeries (steps (begun u) (map with_shape cs)) (steps (begun u) cs) (steps (begun v) ds)
chin_series u v p q e cs ds a =
    series_from a (begun u) (begun v) (begun u) (begun-valid u p) (begun-valid v q) (begun-valid u p) (like_itself (begun u)) (begun_like u v e)
