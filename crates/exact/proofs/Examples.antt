-- Products past 64 bits: how many times 2 to the 64th, and what is left; and how they compare. Assumes nothing.
use Prim.Native.Nat.{◌+◌, ◌*◌, ◌%◌, ◌^◌, ◌-◌}
use mathlib.Core.Path.{◌≡◌, refl}
use mathlib.Core.Bool.{true, false}
use lib.Dec.{ltb}

-- the largest product of a day dose is 9,989,999,989,011,000,000,999, of 74 bits
pub largest_dose : (999_999_999 * 999) * 9_999_999_999 ≡ 541 * 2 ^ 64 + 10_311_445_134_132_576_743
largest_dose = refl

-- the largest of all takes every carry
pub largest : (2 ^ 64 - 1) * (2 ^ 64 - 1) ≡ (2 ^ 64 - 2) * 2 ^ 64 + 1
largest = refl

pub largest_is_not_below_itself : ltb ((2 ^ 64 - 1) * (2 ^ 64 - 1)) ((2 ^ 64 - 1) * (2 ^ 64 - 1)) ≡ false
largest_is_not_below_itself = refl

-- two products of 22 digits that differ by 999: their high 64 bits are equal, and the low ones decide
pub near : (999_999_998 * 999) * 8_999_999_992 ≡ 487 * 2 ^ 64 + 7_435_610_129_448_378_992
near = refl

pub nearer : (999_999_999 * 999) * 8_999_999_983 ≡ 487 * 2 ^ 64 + 7_435_610_129_448_379_991
nearer = refl

pub low_limbs_decide : ltb ((999_999_998 * 999) * 8_999_999_992) ((999_999_999 * 999) * 8_999_999_983) ≡ true
low_limbs_decide = refl

pub not_the_other_way : ltb ((999_999_999 * 999) * 8_999_999_983) ((999_999_998 * 999) * 8_999_999_992) ≡ false
not_the_other_way = refl

-- equal products of other factors: 30 drops 2 times, at 1,000 to 20,000, are 1.5 ml 2 times
pub equal_is_not_below : ltb ((30_000 * 2) * 1_000) ((1_500 * 2) * 20_000) ≡ false
equal_is_not_below = refl

pub equal_is_not_above : ltb ((1_500 * 2) * 20_000) ((30_000 * 2) * 1_000) ≡ false
equal_is_not_above = refl

-- 2 to the 64th is not below 1
pub past_64_bits : ltb (2 ^ 32 * 2 ^ 32) (1 * 1) ≡ false
past_64_bits = refl

-- cut to 64 bits it would be 0, and below 1
pub cut_errs : ltb ((2 ^ 32 * 2 ^ 32) % 2 ^ 64) ((1 * 1) % 2 ^ 64) ≡ true
cut_errs = refl
