-- A number in decimal, and with the character behind it. A character is a byte: 48 is 0. Assumes nothing.
use Rattle.std.specs.Prelude.{ℕ, zero, suc, ◌/◌, ◌%◌, ◌+◌, cond, List, [], ◌∷◌, ◌++◌, ltb}

abbrev pub space : ℕ
space = 32

abbrev pub line_feed : ℕ
line_feed = 10

-- a number below ten is its digit; any other, those of its tenth and then its last digit; k is more than the digits
unfoldable pub decimals : ℕ → ℕ → List ℕ
decimals zero n = []
decimals (suc k) n = cond (ltb n 10) ((48 + n) ∷ []) (decimals k (n / 10) ++ ((48 + n % 10) ∷ []))

-- a number without zeros in front; zero is 0
unfoldable pub decimal : ℕ → List ℕ
decimal n = decimals (suc n) n

-- n in k digits, zeros in front; the last k digits where it has more
unfoldable pub digits : ℕ → ℕ → List ℕ
digits zero n = []
digits (suc k) n = digits k (n / 10) ++ ((48 + n % 10) ∷ [])

-- a number and the character behind it
unfoldable pub field : ℕ → ℕ → List ℕ
field n behind = decimal n ++ (behind ∷ [])
