-- Every answer fits its two halves, and its number has them.
use Prim.Native.Nat.{ℕ, ◌+◌, ◌*◌, ◌/◌, ◌%◌, ◌<◌}
use native.Mathlib.Omega.{arith}
use mathlib.Core.Bool.{Bool, true, false}
use mathlib.Core.Path.{◌≡◌, refl, sym, ap, subst, ◌∙◌}
use mathlib.Core.List.{List}
use lib.Dec.{T, ltb, leb, eqb}
use lib.ListN.{length, take}
use Rattle.definition.specs.Basic.{Bytes, pick}
use Rattle.definition.specs.Limit.{session_size}
use Rattle.definition.specs.Number.{refusal, output_short, call_numbers, make_numbers, word_numbers, list_numbers, number_of}
use Rattle.definition.specs.Decode.{read_image}
use Rattle.definition.specs.Call.{Lent, call, made, made_words}
use Rattle.definition.specs.Listing.{list_answer}
use Rattle.definition.specs.Output.{output_answer}
use Rattle.definition.specs.Valid.{AreBytes}
use Rattle.definition.specs.declared.reason.Refusal.{Refusal}
use Rattle.definition.specs.Answer.{Answer}
use Rattle.std.specs.Prelude.{Result, Ok, Err}
use Rattle.definition.proofs.Numbers.{each, below}
use Rattle.definition.proofs.Places.{Within, made_within, made-words_within, call_within_limit}
use Rattle.definition.proofs.ListingLength.{list_within}
use Rattle.text.specs.Script.{read_text, answer_of as readAnswer}
use Rattle.text.proofs.Small.{ReadWithin, read_within}
use Rattle.text.specs.Next.{token_at}
use Rattle.text.proofs.Told.{ToldWithin, told_within}
use Rattle.exported.specs.Token.{numbers_answer}
use Rattle.load.specs.Load.{tree_of}
use Rattle.load.proofs.Theorems.{tree_short}
use Rattle.bytecode.specs.declared.Form.{Form}
use Rattle.chin.specs.Chin.{translate, answer_of}
use Rattle.chin.specs.Rows.{other_form, jump_of}
use Rattle.chin.proofs.Fits.{chin_numbers, translate_within}
use Rattle.heights.specs.Pass.{heights_answer}
use Rattle.heights.specs.Proposal.{proposal_answer}
use Rattle.heights.proofs.Bounds.{heights_numbers, heights_within, proposal_within}
use Rattle.definition.specs.Tree.{read_tree}
use Rattle.shape.specs.Promise.{answer_of as shapeAnswer}
use Rattle.shape.proofs.Within.{shape_numbers, shape_within}
use Rattle.exported.specs.Packed.{half_bound, packed, reason_of, of_halves, unpacked, Fits, Packs, Told}
use Rattle.definition.specs.declared.reason.Reason.{Reason}
use Rattle.definition.specs.declared.reason.Reason.TheVariants.{ShortBuffer, NoSession, BadTree, TooDeep, Undefined, Operator, Macro, TooMany, Locals, Captures, Globals, Pool, Code, Nesting, OutputShort, BadInstruction, BadImage, FewRecords, BadWords, BadScript, LargeInteger, NoValue, BadSize, NoFrame, BadHeights, BadJump, NotRunnable, Operand, Unset}

-- the halves of a number whose halves fit
pub packs : {a : Answer} {r : ℕ} → Fits a → r ≡ packed a → Packs a r
packs h e = record { whole = e; number = omega (arith, h.value); value = omega (arith, h.value) }

-- a length
pub packs_length : {a : Answer} {n : ℕ} → Fits a → a ≡ Ok n → Packs a n
packs_length h e = packs h (omega (arith, ap packed e))

-- a refusal, whose parts fit
pub packs_refused : {a : Answer} {r : Refusal} → Fits a → a ≡ Err r → Packs a (number_of r.reason * half_bound + r.place)
packs_refused h e = packs h (sym (ap packed e))

pub refused-fits : {a : Answer} {r : Refusal} → Fits a → a ≡ Err r → Fits (Err r)
refused-fits h e = subst Fits e h

-- an answer that equals another
pub fits_as : {a b : Answer} → a ≡ b → Fits b → Fits a
fits_as e h = subst Fits (sym e) h

pub packs_as : {a b : Answer} {r : ℕ} → a ≡ b → Packs a r → Packs b r
packs_as {r = r} e h = subst (λ a. Packs a r) e h

-- an answer within bounds that fit
within_fits : {lengths places : ℕ} {a : Answer} (numbers : List ℕ) → T (each (λ n. ltb n half_bound) numbers) → lengths < half_bound → places < half_bound → Within lengths numbers places a → Fits a
within_fits numbers n l p (Within.wrote h) = record { number = omega arith; value = omega arith }
within_fits numbers n l p (Within.refused {r = r} b) = record { number = below numbers half_bound n (number_of r.reason) b.number; value = omega (arith, b.place) }

pub made-fits : (s : Bytes) → Fits (made s).answer
made-fits s = within_fits make_numbers tt (omega arith) (omega arith) (made_within s)

pub words-fits : (s names : Bytes) → Fits (made_words s names).answer
words-fits s names = within_fits word_numbers tt (omega arith) (omega arith) (made-words_within s names)

pub call_fits : (tree : Bytes) (l : Lent) → AreBytes (take session_size l.session) → Fits (call tree l).answer
call_fits tree l a = within_fits call_numbers tt (omega arith) (omega arith) (call_within_limit tree l a)

pub list_fits : (b : Bytes) → AreBytes b → (room : ℕ) → Fits (list_answer (read_image b) room)
list_fits b a room = within_fits list_numbers tt (omega arith) (omega arith) (list_within b a room)

pub load_fits : (seed room : ℕ) → Fits (output_answer (tree_of seed) room)
load_fits seed room = go (leb (length (tree_of seed)) room)
  where
    go : (b : Bool) → Fits (pick b (Ok (length (tree_of seed))) (Err (refusal output_short 0)))
    go true = record { number = omega arith; value = omega (arith, tree_short seed) }
    go false = record { number = omega arith; value = omega arith }

pub shape-fits : (tree : Bytes) (room : ℕ) → Fits (shapeAnswer (read_tree tree) tree room)
shape-fits tree room = within_fits shape_numbers tt (omega arith) (omega arith) (shape_within tree room)

pub turn-fits : (f : Form) (b : Bytes) → AreBytes b → (room : ℕ) → Fits (answer_of (translate f (other_form f) (jump_of f) b) room)
turn-fits f b a room = within_fits chin_numbers tt (omega arith) (omega arith) (translate_within f b a room)

pub heights_fits : (b : Bytes) → AreBytes b → (hs : List ℕ) (room : ℕ) → Fits (heights_answer (read_image b) hs room)
heights_fits b a hs room = within_fits heights_numbers tt (omega arith) (omega arith) (heights_within b a hs room)

pub proposal_fits : (b : Bytes) → AreBytes b → (room : ℕ) → Fits (proposal_answer (read_image b) room)
proposal_fits b a room = within_fits list_numbers tt (omega arith) (omega arith) (proposal_within b a room)

-- a refusal is had from its halves: no number is 0, and each is one reason's
pub refusal-told : (r : Reason) (p : ℕ) → of_halves (number_of r) p ≡ Err (refusal r p)
refusal-told ShortBuffer p = refl
refusal-told NoSession p = refl
refusal-told BadTree p = refl
refusal-told TooDeep p = refl
refusal-told Undefined p = refl
refusal-told Operator p = refl
refusal-told Macro p = refl
refusal-told TooMany p = refl
refusal-told Locals p = refl
refusal-told Captures p = refl
refusal-told Globals p = refl
refusal-told Pool p = refl
refusal-told Code p = refl
refusal-told Nesting p = refl
refusal-told OutputShort p = refl
refusal-told BadInstruction p = refl
refusal-told BadImage p = refl
refusal-told FewRecords p = refl
refusal-told BadWords p = refl
refusal-told BadScript p = refl
refusal-told LargeInteger p = refl
refusal-told NoValue p = refl
refusal-told BadSize p = refl
refusal-told NoFrame p = refl
refusal-told BadHeights p = refl
refusal-told BadJump p = refl
refusal-told NotRunnable p = refl
refusal-told Operand p = refl
refusal-told Unset p = refl

-- so no number is 0
pub numbered : (r : Reason) → eqb (number_of r) 0 ≡ false
numbered r = go (eqb (number_of r) 0) refl
  where
    go : (b : Bool) → eqb (number_of r) 0 ≡ b → eqb (number_of r) 0 ≡ false
    go false e = e
    go true e =
        let same : ◌≡◌ {A = Answer} (Ok 0) (Err (refusal r 0)) = sym (ap (λ b. pick b (Ok 0) (Err (refusal (reason_of (number_of r)) 0))) e) ∙ refusal-told r 0 in
        let w : ◌≡◌ {A = ℕ} 0 1 = cc in
        absurd (omega arith)

-- and so is every answer
pub told : (a : Answer) → Told a
told (Ok n) = record { back = refl }
told (Err r) = record { back = refusal-told r.reason r.place }

pub made_told : (s : Bytes) → Told (made s).answer
made_told s = told (made s).answer

pub words-told : (s names : Bytes) → Told (made_words s names).answer
words-told s names = told (made_words s names).answer

pub call-told : (tree : Bytes) (l : Lent) → AreBytes (take session_size l.session) → Told (call tree l).answer
call-told tree l a = told (call tree l).answer

-- the answer from its number
pub packs_back : {a : Answer} {r : ℕ} → Told a → Packs a r → unpacked r ≡ a
packs_back t p = (λ i. of_halves (p.number i) (p.value i)) ∙ t.back

-- where the high half is 0 it is a length: the low half
pub packs_wrote : {a : Answer} {r : ℕ} → Packs a r → r / half_bound ≡ 0 → a ≡ Ok (r % half_bound)
packs_wrote {a} {r} p z = sym (packs_back (told a) p) ∙ (λ i. of_halves (z i) (r % half_bound))

-- the answer to a text
pub read_fits : (lent : ℕ) (text : Bytes) → Fits (readAnswer (read_text lent text))
read_fits lent text = go (read_within lent text)
  where
    go : {a : Answer} → ReadWithin a → Fits a
    go (ReadWithin.wrote h) = record { number = omega arith; value = omega arith }
    go (ReadWithin.refused h k) = record { number = omega arith; value = omega arith }

-- the answer to an offset of a text
pub token-fits : (text : Bytes) (at room : ℕ) → Fits (numbers_answer (token_at text at) room)
token-fits text at room = go (told_within text at)
  where
    three_fits : (b : Bool) → Fits (pick b (Ok 3) (Err (refusal output_short 0)))
    three_fits true = record { number = omega arith; value = omega arith }
    three_fits false = record { number = omega arith; value = omega arith }

    go : {r : Result (List ℕ) Refusal} → ToldWithin r → Fits (numbers_answer r room)
    go ToldWithin.numbers = three_fits (leb 3 room)
    go (ToldWithin.refused h k) = record { number = omega arith; value = omega arith }
