-- What the exported functions do in whole series of their calls.
use Rattle.std.specs.Prelude.{ℕ, ◌/◌, ◌%◌, List, [], ◌∷◌, ◌≡◌, T, length, take, Ok, Err}
use Rattle.definition.specs.Basic.{Bytes}
use Rattle.definition.specs.Number.{is_one_of, number_of}
use Rattle.definition.specs.Bytecode.{Image}
use Rattle.definition.specs.Compile.{Outcome, Step}
use Rattle.definition.specs.Call.{Lent, Called}
use Rattle.definition.specs.Decode.{decoded, read_image}
use Rattle.definition.specs.Literal.{Mask, image_mask}
use Rattle.definition.specs.Output.{over, output_answer, output_after}
use Rattle.definition.specs.Series.{Call, lent, Agree}
use Rattle.definition.specs.Tree.{read_tree}
use Rattle.definition.specs.declared.reason.Refusal.{Refusal}
use Rattle.definition.specs.declared.reason.Reason.{Reason}
use Rattle.chin.specs.Chin.{to_chin}
use Rattle.heights.specs.Judgement.{Tops, Offers, Are32Bit}
use Rattle.trial.specs.Value.{Globals}
use Rattle.trial.specs.Evaluate.{End, tree_end}
use Rattle.trial.specs.Output.{shown}
use Rattle.exported.specs.Packed.{half_bound, unpacked, CompilesPacked}
use Rattle.exported.specs.Named.{names_unpacked, count_unpacked, NamesPacked}
use Rattle.exported.specs.Framed.{Pairs, CountsPacked, PlacesPacked, RefusesPacked}
use Rattle.exported.specs.Turned.{TurnsPacked}
use Rattle.exported.specs.Heights.{ChecksPacked}
use Rattle.promises.specs.Evaluated.{up_to15}
use Rattle.promises.specs.Mixed.{AnyCall, AnyDone, RanBy}

-- a call and what it gave, in a series whose session is s: the promise of `monkey_compile`, or of `monkey_compile_names`
pub data KeptPacked (s : Bytes) : AnyCall → AnyDone → Type 0 where
  plain : {c : Call} {r : ℕ} {l' : Lent} → CompilesPacked c.tree (lent s c) r l' → KeptPacked s (AnyCall.plain c) (AnyDone.plain (record { answer = unpacked r; lent = l' }))
  names : {c : Call} {xs xs' : List ℕ} {r : ℕ} {l' : Lent} → NamesPacked c.tree (lent s c) xs r l' xs'
      → KeptPacked s (AnyCall.names c xs) (AnyDone.names (record { answer = names_unpacked r; lent = l' }) (count_unpacked r) xs')

-- a series of calls of both, in any order, that ran
abbrev pub RanMixedPacked : Bytes → List AnyCall → List AnyDone → Type 0
RanMixedPacked = RanBy KeptPacked

-- the three calls on two images at one size and number answer one number
pub record SameFramesPacked (a b : Bytes) : Type 0 where
  pub counts : {size r q : ℕ} → CountsPacked a size r → CountsPacked b size q → r ≡ q
  pub places : {size k r q : ℕ} → PlacesPacked a size k r → PlacesPacked b size k q → r ≡ q
  pub refusals : {size k r q : ℕ} → RefusesPacked a size k r → RefusesPacked b size k q → r ≡ q

-- two calls of one step: two images of one length to which the calls answer alike, or one refusal
pub data FramesPacked : Called → Called → Type 0 where
  accepted : {n : ℕ} {x y : Called} → x.answer ≡ Ok n → y.answer ≡ Ok n → SameFramesPacked (take n x.lent.output) (take n y.lent.output)
      → FramesPacked x y
  refused : {r : Refusal} {x y : Called} → x.answer ≡ Err r → y.answer ≡ Err r → FramesPacked x y

-- the call on two images, with outputs equally long, answers one number; and where it is no refusal the bytes written agree at all but a
-- mask's places
pub record SameChinPacked (m : Mask) (a b : Bytes) : Type 0 where
  pub numbers : {o p o' p' : Bytes} {r q : ℕ} → TurnsPacked (to_chin a) o r o' → TurnsPacked (to_chin b) p q p' → length o ≡ length p
      → r ≡ q
  pub bytes : {o p o' p' : Bytes} {r q : ℕ} → TurnsPacked (to_chin a) o r o' → TurnsPacked (to_chin b) p q p' → length o ≡ length p
      → r / half_bound ≡ 0 → Agree m (take (r % half_bound) o') (take (r % half_bound) p')

-- two calls of one step beside the shapes' outcome, likewise
pub data ChinPacked : Outcome → Called → Called → Type 0 where
  accepted : {m : Image} {n : ℕ} {x y : Called} → x.answer ≡ Ok n → y.answer ≡ Ok n
      → SameChinPacked (image_mask m) (take n x.lent.output) (take n y.lent.output) → ChinPacked (Outcome.accepted m) x y
  refused : {r : Refusal} {x y : Called} → x.answer ≡ Err r → y.answer ≡ Err r → ChinPacked (Outcome.refused r) x y

-- at every step of two series
pub data ChinPackedStepwise : List Step → List Called → List Called → Type 0 where
  done : ChinPackedStepwise [] [] []
  step : {p : Step} {x y : Called} {ps : List Step} {xs ys : List Called} → ChinPacked p.outcome x y → ChinPackedStepwise ps xs ys
      → ChinPackedStepwise (p ∷ ps) (x ∷ xs) (y ∷ ys)

-- the check of an image's heights answers each chunk's greatest height, or 15 where the output is too short, and writes them
pub record ChecksWell (b : Bytes) (m : Image) (hs : List ℕ) : Type 0 where
  pub tops : List ℕ
  pub greatest : Tops m m.pool tops
  pub answer : {o o' : List ℕ} {r : ℕ} → ChecksPacked b hs o r o' → unpacked r ≡ output_answer tops (length o)
  pub output : {o o' : List ℕ} {r : ℕ} → ChecksPacked b hs o r o' → o' ≡ output_after tops o

-- of an image: some list of 32-bit numbers offers each reached instruction its height, and with every such list the check answers so
pub record ImagePasses (b : Bytes) : Type 0 where
  pub image : Image
  pub reads : read_image b ≡ decoded image (length b)
  pub offers : (hs : List ℕ) × Offers hs image × Are32Bit hs
  pub passes : (hs : List ℕ) → Offers hs image → ChecksWell b image hs

-- of the image of a call, if it was accepted
pub record HeightsPacked (x : Called) : Type 0 where
  pub wrote : (n : ℕ) → x.answer ≡ Ok n → ImagePasses (take n x.lent.output)

-- a number of the trial run that is no refusal numbered 1, 17, 25, 27 or 15
pub record NotUpTo15Packed (r : ℕ) : Type 0 where
  pub later : T (is_one_of up_to15 (r / half_bound)) → ⊥

-- number and output are what evaluating the tree by these rules gives: its globals, shown at the front of the output, so many of them and
-- so many steps in the low half; or a stop of the same number
pub data EvaluatedPacked (tree o : Bytes) (r : ℕ) : Bytes → Type 0 where
  globals : {g : Globals} {n k : ℕ} → tree_end (read_tree tree) ≡ End.globals g → r / half_bound ≡ 0 → Pairs n k (r % half_bound)
      → EvaluatedPacked tree o r (over (shown n g) o)
  stop : {k : Reason} → tree_end (read_tree tree) ≡ End.stop k → r / half_bound ≡ number_of k → EvaluatedPacked tree o r o

-- a number whose high half is a refusal's number and whose low half is its place
abbrev pub Refuses : ℕ → Reason → ℕ → Type 0
Refuses r n p = (r / half_bound ≡ number_of n) × (r % half_bound ≡ p)
