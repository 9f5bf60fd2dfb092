-- What is answered to two scripts that are alike: alike trees, or refusals alike, but where one of the texts is cut.
use Prim.Native.Nat.{ℕ, suc, ◌<◌}
use native.Mathlib.Omega.{arith}
use mathlib.Core.List.{[], ◌∷◌, ◌++◌}
use mathlib.Core.Path.{◌≡◌, refl, sym, ap, subst}
use lib.ListN.{length, length-append, get_or}
use Rattle.definition.specs.Basic.{Bytes}
use Rattle.definition.specs.Limit.{tree_limit}
use Rattle.definition.specs.Node.{Node}
use Rattle.definition.specs.Number.{refusal, bad_script}
use Rattle.text.specs.Answer.{Beginning, Answers}
use Rattle.text.specs.Grammar.{Script}
use Rattle.text.specs.Scan.{Tail, whole, cut, scan_text}
use Rattle.text.specs.Script.{Outcome, refused, read_text}
use Rattle.text.specs.Token.{Token, Row}
use Rattle.text.proofs.Determined.{determined}
use Rattle.text.proofs.RealTokens.{real_text}
use Rattle.text.proofs.Smaller.{smaller_right}
use Rattle.text.proofs.Theorems.{answers, script_begins}
use Rattle.alike.specs.Answers.{AlikeAnswers}
use Rattle.alike.specs.Scripts.{AlikeScripts}
use Rattle.alike.proofs.Derived.{Like, LikeRows, like_real, script_like}
use Rattle.alike.proofs.Nodes.{LikeNode, like_length, like_levels, alike-bytes}

-- the other way round
like_back : {t u : Token} → Like t u → Like u t
like_back (Like.same t) = Like.same t
like_back (Like.values i h) = Like.values i (sym h)
like_back (Like.bools i j) = Like.bools j i

rows_back : {ts us : Row} → LikeRows ts us → LikeRows us ts
rows_back LikeRows.ended = LikeRows.ended
rows_back (LikeRows.next t l) = LikeRows.next (like_back t) (rows_back l)

-- with the same behind both
rows_same : (ts : Row) → LikeRows ts ts
rows_same [] = LikeRows.ended
rows_same (t ∷ ts) = LikeRows.next (Like.same t) (rows_same ts)

rows_append : {ts us vs ws : Row} → LikeRows ts us → LikeRows vs ws → LikeRows (ts ++ vs) (us ++ ws)
rows_append LikeRows.ended m = m
rows_append (LikeRows.next t l) m = LikeRows.next t (rows_append l m)

-- what is alike to the beginning of a script is one
begins_again : {ts us : Row} → LikeRows ts us → Beginning ts → Beginning us
begins_again l b =
    let z = script_like b.script (rows_append l (rows_same b.rest)) in record { rest = b.rest; denoted = z.made; script = z.script }

-- what is alike to a row that is cut before a token
record CutAgain (pre : Row) (t : Token) (vs : Row) : Type 0 where
  pub before : Row
  pub at : Token
  pub behind : Row
  pub is : vs ≡ before ++ (at ∷ behind)
  pub first : LikeRows pre before
  pub token : Like t at
  pub long : length before ≡ length pre

cut_again : (pre us : Row) {t : Token} {vs : Row} → LikeRows (pre ++ (t ∷ us)) vs → CutAgain pre t vs
cut_again [] us (LikeRows.next {u = u} {us = vs} t l) = record { before = []; at = u; behind = vs; is = refl; first = LikeRows.ended; token = t; long = refl }
cut_again (p ∷ pre) us (LikeRows.next {u = u} t l) =
    let c = cut_again pre us l in
    record { before = u ∷ c.before; at = c.at; behind = c.behind; is = ap (λ r. u ∷ r) c.is; first = LikeRows.next t c.first; token = c.token; long = ap suc c.long }

module _ (lent : ℕ) (s t : Bytes) (l : LikeRows (scan_text s).tokens (scan_text t).tokens) where
  abbrev Both : Outcome → Type 0
  Both o = AlikeAnswers (scan_text s) (scan_text t) o (read_text lent t)

  -- by what the second must be answered
  both : {o p : Outcome} → AlikeAnswers (scan_text s) (scan_text t) o p → Answers lent (scan_text t) p → Both o
  both {o} a b = subst (AlikeAnswers (scan_text s) (scan_text t) o) (determined lent t b) a

  -- where the tokens of the second begin a script: it is cut, or not
  either_way : {o : Outcome} → Beginning (scan_text t).tokens → ((n : ℕ) → (scan_text t).tail ≡ whole n → Both o) → Both o
  either_way {o} b f = go (scan_text t).tail refl
    where
      go : (l : Tail) → (scan_text t).tail ≡ l → Both o
      go (whole n) e = f n e
      go (cut r p) e = both (AlikeAnswers.second_cut r p e b) (Answers.cut_short r p e b)

  -- where those of the first are a script
  of_script : {o : Outcome} {x : Node} → Script (scan_text s).tokens x
      → ((n : ℕ) (y : Node) → (scan_text t).tail ≡ whole n → Script (scan_text t).tokens y → LikeNode x y → Both o) → Both o
  of_script d f = let z = script_like d l in either_way (script_begins z.script) (λ n e. f n z.made e z.script z.like)

  go : {o : Outcome} → Answers lent (scan_text s) o → Both o
  go (Answers.bad_token pre us u e b none) =
      let c = cut_again pre us (subst (λ r. LikeRows r (scan_text t).tokens) e l) in
      let back : LikeRows (c.before ++ (c.at ∷ [])) (pre ++ (u ∷ [])) = rows_append (rows_back c.first) (LikeRows.next (like_back c.token) LikeRows.ended) in
      let k : length pre < length (scan_text s).tokens = omega (arith, ap length e, length-append pre (u ∷ us)) in
      both (AlikeAnswers.token (length pre) k)
      (subst (λ n. Answers lent (scan_text t) (refused (refusal bad_script (get_or (scan_text t).places n 0)))) c.long
      (Answers.bad_token c.before c.behind c.at c.is (begins_again c.first b) (λ h. none (begins_again back h))))
  go (Answers.cut_short r p e b) = AlikeAnswers.first_cut r p e b
  go (Answers.ends_early end e b none) =
      let c = begins_again l b in
      either_way c (λ n f. both (AlikeAnswers.early end n e f) (Answers.ends_early n f c (λ y d. let z = script_like d (rows_back l) in none z.made z.script)))
  go (Answers.too_deep end x e d h) =
      of_script d (λ n y f g w. both AlikeAnswers.deep (Answers.too_deep n y f g (omega (arith, h, like_levels w))))
  go (Answers.too_long end x e d h k) =
      of_script d (λ n y f g w. both AlikeAnswers.long (Answers.too_long n y f g (omega (arith, h, like_levels w)) (omega (arith, k, like_length w))))
  go (Answers.denotes end x e d h k) =
      of_script d (λ n y f g w. both (AlikeAnswers.read (alike-bytes w (omega (arith, k, smaller_right lent tree_limit)))) (Answers.denotes n y f g (omega (arith, h, like_levels w)) (omega (arith, k, like_length w))))

-- Two scripts that are alike, read into outputs of one length, are answered with alike trees,
-- or refused alike, number and token, unless one of them is cut
pub alike-answers : (lent : ℕ) (s t : Bytes) → AlikeScripts s t
    → AlikeAnswers (scan_text s) (scan_text t) (read_text lent s) (read_text lent t)
alike-answers lent s t a = go lent s t (like_real a.tokens (real_text s) (real_text t)) (answers lent s)
