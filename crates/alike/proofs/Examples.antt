-- Scripts that are alike, and scripts that are not.
use Prim.Native.Nat.{ℕ}
use native.Mathlib.Omega.{arith}
use mathlib.Core.List.{[], ◌∷◌}
use mathlib.Core.Path.{◌≡◌, refl, sym, ap, ◌∙◌}
use lib.ListN.{length}
use Rattle.definition.specs.Basic.{Bytes}
use Rattle.definition.specs.Text.{ascii}
use Rattle.definition.specs.SymbolTable.{same as sameBytes}
use Rattle.text.specs.Kind.{a_name, a_string}
use Rattle.text.specs.Token.{Token, token, Row}
use Rattle.text.specs.Scan.{kind_in, value, skip, next_at, scan}
use Rattle.alike.specs.Scripts.{AlikeToken, AlikeTokens, AlikeScripts}

-- another integer, another string as long, false for true; blanks do not count
pub alike-example : AlikeScripts (ascii "let a = 1; a == \"xy\"; true") (ascii "let a=250;a  ==\"zw\";false")
unfolding sameBytes kind_in value skip next_at scan
alike-example =
    record {
      tokens =
          AlikeTokens.next (AlikeToken.same _) (AlikeTokens.next (AlikeToken.same _) (AlikeTokens.next (AlikeToken.same _) (AlikeTokens.next (AlikeToken.integers _ _) (AlikeTokens.next (AlikeToken.same _)
          (AlikeTokens.next (AlikeToken.same _) (AlikeTokens.next (AlikeToken.same _) (AlikeTokens.next (AlikeToken.strings _ _ refl) (AlikeTokens.next (AlikeToken.same _) (AlikeTokens.next (AlikeToken.true_false _ _) AlikeTokens.ended)))))))));
    }

-- the only token of each
only : {ts us : Row} {t u : Token} → AlikeTokens ts us → ts ≡ t ∷ [] → us ≡ u ∷ [] → AlikeToken t u
only AlikeTokens.ended e f = let z : ◌≡◌ {A = ℕ} 0 1 = cc in absurd (omega arith)
only {t = v} {u = w} (AlikeTokens.next {t = t} {u = u} a _) e f = go a (cc) (cc)
  where
    go : {t u : Token} → AlikeToken t u → t ≡ v → u ≡ w → AlikeToken v w
    go a p q = rw (sym p, sym q) a

-- a name is the same name
names_same : {t u : Token} (b c : Bytes) → AlikeToken t u → t ≡ token a_name b → u ≡ token a_name c → b ≡ c
names_same b c (AlikeToken.same t) e f = cc
names_same b c (AlikeToken.integers _ _) e f = let z : ◌≡◌ {A = ℕ} 3 2 = cc in absurd (omega arith)
names_same b c (AlikeToken.true_false _ _) e f = let z : ◌≡◌ {A = ℕ} 5 2 = cc in absurd (omega arith)
names_same b c (AlikeToken.false_true _ _) e f = let z : ◌≡◌ {A = ℕ} 6 2 = cc in absurd (omega arith)
names_same b c (AlikeToken.strings _ _ _) e f = let z : ◌≡◌ {A = ℕ} 4 2 = cc in absurd (omega arith)

-- a string is as long
strings_long : {t u : Token} (b c : Bytes) → AlikeToken t u → t ≡ token a_string b → u ≡ token a_string c → length b ≡ length c
strings_long b c (AlikeToken.same t) e f = let z : b ≡ c = cc in ap length z
strings_long b c (AlikeToken.integers _ _) e f = let z : ◌≡◌ {A = ℕ} 3 4 = cc in absurd (omega arith)
strings_long b c (AlikeToken.true_false _ _) e f = let z : ◌≡◌ {A = ℕ} 5 4 = cc in absurd (omega arith)
strings_long b c (AlikeToken.false_true _ _) e f = let z : ◌≡◌ {A = ℕ} 6 4 = cc in absurd (omega arith)
strings_long b c (AlikeToken.strings x y h) e f = let p : x ≡ b = cc in let q : y ≡ c = cc in sym (ap length p) ∙ h ∙ ap length q

-- another name
pub other_name : AlikeScripts (ascii "a") (ascii "b") → ⊥
unfolding sameBytes kind_in value skip next_at scan
other_name l =
    let e = names_same (ascii "a") (ascii "b") (only l.tokens refl refl) refl refl in let z : ◌≡◌ {A = ℕ} 97 98 = cc in omega arith

-- a longer string
pub longer_string : AlikeScripts (ascii "\"x\"") (ascii "\"xy\"") → ⊥
unfolding sameBytes kind_in value skip next_at scan
longer_string l = let e = strings_long (ascii "x") (ascii "xy") (only l.tokens refl refl) refl refl in omega arith
