-- Same clock: two ts-refclk values name the same clock when both are accepted and their records mean one clock, hosts compared by `hosts_alike`.
use Rattle.std.specs.Prelude.{ℕ, ◌≡◌, List, Ok}
use Rattle.clock.specs.declared.ReferenceClock.{ReferenceClock}
use Rattle.meaning.specs.ReferenceClock.{read_reference_clock}
use Rattle.meaning.specs.Meaning.{ref_meaning}
use Rattle.equal.specs.Alike.{OneClock, hosts_alike}

pub record SameClock (v w : List ℕ) : Type 0 where
  pub first : ReferenceClock
  pub second : ReferenceClock
  pub is_first : read_reference_clock v ≡ Ok first
  pub is_second : read_reference_clock w ≡ Ok second
  pub one : OneClock hosts_alike (ref_meaning v first) (ref_meaning w second)
