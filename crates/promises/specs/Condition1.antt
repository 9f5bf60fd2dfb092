-- Condition 1 of all that a C program calls: one line for each exported function. Each takes the function's promise, and where it needs
-- that a buffer holds bytes, that it does, which a slice of bytes always does; the bound of the places is 0, the length of the tree, that
-- of the longest image or text, or 65,536.
use Rattle.std.specs.Prelude.{ℕ, List, [], ◌∷◌, length, take}
use Rattle.definition.specs.Basic.{Bytes}
use Rattle.definition.specs.Limit.{session_size, image_limit}
use Rattle.definition.specs.Call.{Lent}
use Rattle.definition.specs.Valid.{AreBytes}
use Rattle.definition.specs.Number.{make_numbers, word_numbers, list_numbers}
use Rattle.chin.specs.Chin.{to_chin as turned_to, from_chin as turned_from}
use Rattle.chin.proofs.Fits.{chin_numbers}
use Rattle.heights.proofs.Bounds.{heights_numbers}
use Rattle.text.specs.Scan.{text_limit}
use Rattle.trial.specs.Cells.{work_size}
use Rattle.exported.specs.Packed.{MakesPacked, WordsPacked, CompilesPacked, ListsPacked, LoadsPacked, ReadsPacked}
use Rattle.exported.specs.Framed.{CountsPacked, PlacesPacked, RefusesPacked}
use Rattle.exported.specs.Named.{NamesPacked}
use Rattle.exported.specs.Turned.{TurnsPacked}
use Rattle.exported.specs.Heights.{ChecksPacked, ProposesPacked}
use Rattle.exported.specs.Trial.{RunsPacked}
use Rattle.exported.specs.Token.{TokenPacked}
use Rattle.exported.specs.Shaped.{ShapesPacked}
use Rattle.shape.proofs.Within.{shape_numbers}
use Rattle.promises.specs.Ends.{buffer, Ends, output, nothing, session, compiled, areas, named, shown_globals, compile_numbers, names_numbers, count_numbers, frame_numbers, load_numbers, run_numbers, text_numbers, token_numbers}

pub record Condition1 : Type 0 where
  pub make_session : {s s' : Bytes} {r : ℕ} → MakesPacked s r s' → Ends make_numbers 0 (session s s') [] r
  pub make_session_words : {s names s' : Bytes} {r : ℕ} → AreBytes names → WordsPacked s names r s'
      → Ends word_numbers 0 (session s s') [] r
  pub compile : {tree : Bytes} {l l' : Lent} {r : ℕ} → AreBytes (take session_size l.session) → CompilesPacked tree l r l'
      → Ends compile_numbers (length tree) (compiled l l') (areas l l') r
  pub compile_names : {tree : Bytes} {l l' : Lent} {xs xs' : List ℕ} {r : ℕ} → AreBytes (take session_size l.session)
      → NamesPacked tree l xs r l' xs' → Ends names_numbers (length tree) (named l l' xs xs') (areas l l') r
  pub list_image : {image o o' : Bytes} {r : ℕ} → ListsPacked image o r o' → Ends list_numbers image_limit (output o o') [] r
  pub count_frames : {image : Bytes} {size r : ℕ} → CountsPacked image size r → Ends count_numbers image_limit nothing [] r
  pub frame : {image : Bytes} {size n r : ℕ} → PlacesPacked image size n r → Ends frame_numbers image_limit nothing [] r
  pub frame_refusal : {image : Bytes} {size n r : ℕ} → RefusesPacked image size n r → Ends frame_numbers image_limit nothing [] r
  pub to_chin : {image o o' : Bytes} {r : ℕ} → AreBytes image → TurnsPacked (turned_to image) o r o'
      → Ends chin_numbers image_limit (output o o') [] r
  pub from_chin : {image o o' : Bytes} {r : ℕ} → AreBytes image → TurnsPacked (turned_from image) o r o'
      → Ends chin_numbers image_limit (output o o') [] r
  pub load_tree : {seed : ℕ} {o o' : Bytes} {r : ℕ} → LoadsPacked seed o r o' → Ends load_numbers 0 (output o o') [] r
  pub check_heights : {image : Bytes} {hs o o' : List ℕ} {r : ℕ} → AreBytes image → ChecksPacked image hs o r o'
      → Ends heights_numbers image_limit (output o o') [] r
  pub propose_heights : {image : Bytes} {o o' : List ℕ} {r : ℕ} → ProposesPacked image o r o'
      → Ends list_numbers image_limit (output o o') [] r
  pub run : {image : Bytes} {hs w w' : List ℕ} {o o' : Bytes} {r : ℕ} → AreBytes image → RunsPacked image hs w o r w' o'
      → Ends run_numbers 65536 (shown_globals o o') (buffer work_size w w' ∷ []) r
  pub read_text : {text o o' : Bytes} {r : ℕ} → ReadsPacked text o r o' → Ends text_numbers text_limit (output o o') [] r
  pub next_token : {text : Bytes} {at : ℕ} {o o' : List ℕ} {r : ℕ} → TokenPacked text at o r o'
      → Ends token_numbers text_limit (output o o') [] r
  pub write_shape : {tree o o' : Bytes} {r : ℕ} → ShapesPacked tree o r o' → Ends shape_numbers (length tree) (output o o') [] r
