-- Numbers and bytes as text, in ASCII.
use Rattle.std.specs.Prelude.{ℕ, zero, suc, ◌+◌, ◌*◌, ◌-◌, ◌/◌, ◌%◌, [], ◌∷◌, ◌++◌, length, replicate, ltb}
use Prim.Native.Char.{code}
use Prim.Native.String.{String}
use Prim.Native.String as Text
use Rattle.definition.specs.Basic.{Bytes, pick, byte_at}

-- a text of ASCII characters as bytes
abbrev pub ascii : String → Bytes
ascii Text.[] = []
ascii (Text.◌∷◌ c s) = code c ∷ ascii s

-- a digit
abbrev pub digit : ℕ → ℕ
digit d = 48 + d

-- a number's last digits in decimal, at most so many
unfoldable pub digits : ℕ → ℕ → Bytes
digits zero n = []
digits (suc most) n = let more = digits most (n / 10) ++ (digit (n % 10) ∷ []) in pick (ltb n 10) (digit n ∷ []) more

-- twenty are enough for every 64-bit number
abbrev pub digits_most : ℕ
digits_most = 20

-- a number in decimal
abbrev pub decimal : ℕ → Bytes
decimal = digits digits_most

-- at least four digits
abbrev pub padded : ℕ → Bytes
padded n = replicate (4 - length (decimal n)) (digit 0) ++ decimal n

-- big-endian bytes as a number, behind the number of those before
abbrev pub number : ℕ → Bytes → ℕ
number n [] = n
number n (b ∷ bs) = number (n * 256 + b) bs

-- eight bytes in two's complement, in decimal with its sign
abbrev pub signed : Bytes → Bytes
signed b = let negative = ascii "-" ++ decimal (18446744073709551616 - number 0 b) in pick (ltb (byte_at b 0) 128) (decimal (number 0 b)) negative

-- a lower-case hexadecimal digit
abbrev pub hex_digit : ℕ → ℕ
hex_digit d = pick (ltb d 10) (digit d) (87 + d)

-- bytes in hexadecimal
abbrev pub hex : Bytes → Bytes
hex [] = []
hex (b ∷ bs) = hex_digit (b / 16) ∷ hex_digit (b % 16) ∷ hex bs
