-- The ranges of the code are those of the definitions. Assumes nothing.
use mathlib.Core.Path.{◌≡◌, refl}
use Rattle.guideline.specs.Values as values
use Rattle.fields.specs.declared.TheConstants as code

pub codes : code.CODES ≡ values.codes
codes = refl

pub codes_from_1 : code.CODES_FROM_1 ≡ values.codes_from_1
codes_from_1 = refl

pub units : code.UNITS ≡ values.units
units = refl

pub counts : code.COUNTS ≡ values.counts
counts = refl

pub counts_of_070 : code.COUNTS_OF_070 ≡ values.counts_of_070
counts_of_070 = refl

pub doses : code.DOSES ≡ values.doses
doses = refl

pub limits : code.LIMITS ≡ values.limits
limits = refl

pub ages : code.AGES ≡ values.ages
ages = refl

pub weights : code.WEIGHTS ≡ values.weights
weights = refl

pub surfaces : code.SURFACES ≡ values.surfaces
surfaces = refl

pub sexes : code.SEXES ≡ values.sexes
sexes = refl

pub sexes_of_640 : code.SEXES_OF_640 ≡ values.sexes_of_640
sexes_of_640 = refl

pub risks : code.RISKS ≡ values.risks
risks = refl

pub levels : code.LEVELS ≡ values.levels
levels = refl

pub care_groups : code.CARE_GROUPS ≡ values.care_groups
care_groups = refl

pub icpctos : code.ICPCTOS ≡ values.icpctos
icpctos = refl

pub positions : code.POSITIONS ≡ values.positions
positions = refl

pub editions : code.EDITIONS ≡ values.editions
editions = refl
