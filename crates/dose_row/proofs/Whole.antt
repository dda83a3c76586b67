-- Where nothing is settled, all rows of the category are left. Assumes nothing.
use mathlib.Core.Path.{◌≡◌, ap}
use Rattle.keys.specs.Rows.{key_rows}
use Rattle.sieve.specs.declared.left.Left.{Left}
use Rattle.sieve.specs.Left.{kept_in, kept}
use Rattle.sieve.specs.Settled.{nothing_settled, settled643}

pub all_kept : (s : Left) → s.settled ≡ nothing_settled → kept s ≡ key_rows s.rows
unfolding kept_in settled643
all_kept s e = ap (kept_in s.rows.bytes.now s.rows.view s.rows.key) e
