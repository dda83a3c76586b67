-- The forms that the steps are made of.
use Rattle.std.specs.Prelude.{ℕ, Bool, true, cond}
use Rattle.guideline.specs.Types.{Question, Ending}
use Rattle.guideline.specs.Ask.{Done, Stop, Ask, Step}
use Rattle.guideline.specs.Table.{Table, Hits, None, One, Many, some, among}

-- a branch on a test: `cond`, shut, so that laws about plans can name it
unfoldable pub when : {A : Type 0} → Bool → A → A → A
when b x y = cond b x y

unfoldable pub refuse : {A : Type 0} → Ending → Step A
refuse r = Stop r tt

-- go on where a test holds
unfoldable pub demand : Bool → Ending → Step Bool
demand b r = when b (Done true) (refuse r)

unfoldable pub ask : Question → Step ℕ
ask q = Ask q tt (λ n. Done n)

-- a branch on what a table says: none, the one, several
unfoldable pub choose : {A B : Type 0} → Hits A → B → (A → B) → B → B
choose None x f y = x
choose (One a) x f y = f a
choose (Many n) x f y = y

-- take the one row
unfoldable pub one : {A : Type 0} → Hits A → Ending → Ending → Step A
one h none several = choose h (refuse none) (λ a. Done a) (refuse several)

-- keep the rows with a property, of which there has to be one
unfoldable pub narrow : {A : Type 0} → (A → Bool) → Ending → Table A → Step (Table A)
narrow p none t = when (some (t p)) (Done (among p t)) (refuse none)
