-- What a code stands for, and what an entry holds.
use Prim.Native.Nat.{ℕ, ◌+◌, ◌-◌, ◌%◌, ◌≤◌, ◌<◌}
use mathlib.Core.Path.{◌≡◌, refl}
use mathlib.Core.Bool.{Bool, true, false}
use native.Mathlib.Omega.{arith}
use lib.Dec.{ltb}
use borrow.Author.Tests.{lt-ltb, le-ltb, ltb-true, ltb-false}
use Rattle.definition.specs.Basic.{pick}
use Rattle.definition.specs.SymbolTable.{Symbol}
use Rattle.symbol_table.specs.Layout.{symbol_of, code_of, packed, name_in, code_in, tag_in}

pub symbol_local : (d : ℕ) → d < 256 → symbol_of (256 + d) ≡ Symbol.local d
unfolding symbol_of
symbol_local d h =
    let e : 256 + d - 256 ≡ d = omega arith in
    rw (le-ltb (256 + d) 256 (omega arith), lt-ltb (256 + d) 512 (omega arith), e)

pub symbol_free : (f : ℕ) → f < 256 → symbol_of (512 + f) ≡ Symbol.free f
unfolding symbol_of
symbol_free f h =
    let e : 512 + f - 512 ≡ f = omega arith in
    rw (le-ltb (512 + f) 256 (omega arith), le-ltb (512 + f) 512 (omega arith), lt-ltb (512 + f) 768 (omega arith), e)

pub symbol_global : (g : ℕ) → symbol_of (1024 + g) ≡ Symbol.global g
unfolding symbol_of
symbol_global g =
    let e : 1024 + g - 1024 ≡ g = omega arith in
    rw (le-ltb (1024 + g) 256 (omega arith), le-ltb (1024 + g) 512 (omega arith), le-ltb (1024 + g) 768 (omega arith), le-ltb (1024 + g) 1024 (omega arith), e)

pub symbol_builtin : (b : ℕ) → b < 256 → symbol_of (768 + b) ≡ Symbol.builtin b
unfolding symbol_of
symbol_builtin b h =
    let e : 768 + b - 768 ≡ b = omega arith in
    rw (le-ltb (768 + b) 256 (omega arith), le-ltb (768 + b) 512 (omega arith), le-ltb (768 + b) 768 (omega arith), lt-ltb (768 + b) 1024 (omega arith), e)

-- the code of a builtin or a global; other symbols have none
module _ (c : ℕ) where
  pub code_far : 768 ≤ c → code_of (symbol_of c) ≡ c
  unfolding symbol_of
  code_far h = rw (le-ltb c 256 (omega arith), le-ltb c 512 (omega arith), le-ltb c 768 h) (go (ltb c 1024) refl)
    where
      go : (t : Bool) → ltb c 1024 ≡ t → code_of (pick t (Symbol.builtin (c - 768)) (Symbol.global (c - 1024))) ≡ c
      go true p = omega (arith, ltb-true c 1024 p)
      go false p = omega (arith, ltb-false c 1024 p)

  pub code_near : c < 768 → code_of (symbol_of c) ≡ 0
  unfolding symbol_of
  code_near h = rw (lt-ltb c 768 h) (go (ltb c 256) (ltb c 512))
    where
      go : (t u : Bool) → code_of (pick t Symbol.function (pick u (Symbol.local (c - 256)) (Symbol.free (c - 512)))) ≡ 0
      go true u = refl
      go false true = refl
      go false false = refl

  -- and back: by the symbol, whether the code is a builtin's or a global's
  pub far_code : 768 ≤ code_of (symbol_of c) → 768 ≤ c
  far_code h = go (ltb c 768) refl
    where
      go : (t : Bool) → ltb c 768 ≡ t → 768 ≤ c
      go true p = absurd (omega (arith, h, code_near (ltb-true c 768 p)))
      go false p = ltb-false c 768 p

  pub near_code : code_of (symbol_of c) ≡ 0 → c < 768
  near_code h = go (ltb c 768) refl
    where
      go : (t : Bool) → ltb c 768 ≡ t → c < 768
      go true p = ltb-true c 768 p
      go false p = let f = ltb-false c 768 p in absurd (omega (arith, h, f, code_far f))

-- An entry as a number

module _ (name code hash : ℕ) (n : name < 32768) (c : code < 1024) where
  pub name-in : name_in (packed name code hash) ≡ name
  name-in = omega arith

  pub code-in : code_in (packed name code hash) ≡ code
  code-in = omega arith

  pub tag-in : tag_in (packed name code hash) ≡ hash % 128
  tag-in = omega arith
