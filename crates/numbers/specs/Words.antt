-- Numbers of 32 and of 64 bits as bytes, lowest byte first: the number that stands at a place, and the bytes that a number is written as. Assumes nothing.
use Rattle.std.specs.Prelude.{ℕ, ◌+◌, ◌*◌, ◌/◌, ◌%◌, List, [], ◌∷◌, ◌++◌, get_or}

-- the number of 32 bits at a place
unfoldable pub word : List ℕ → ℕ → ℕ
word l at = get_or l at 0 + get_or l (at + 1) 0 * 256 + get_or l (at + 2) 0 * 65_536 + get_or l (at + 3) 0 * 16_777_216

-- the number of 64 bits at a place
unfoldable pub long : List ℕ → ℕ → ℕ
long l at = word l at + word l (at + 4) * 4_294_967_296

-- a number of 32 bits as four bytes
unfoldable pub word_bytes : ℕ → List ℕ
word_bytes n = n % 256 ∷ n / 256 % 256 ∷ n / 65_536 % 256 ∷ n / 16_777_216 % 256 ∷ []

-- a number of 64 bits as eight
unfoldable pub long_bytes : ℕ → List ℕ
long_bytes n = word_bytes (n % 4_294_967_296) ++ word_bytes (n / 4_294_967_296)
