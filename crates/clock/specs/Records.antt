-- The structs, each as a function of its parts.
use Rattle.std.specs.Prelude.{ℕ, Option}
use Rattle.text.specs.declared.Place.{Place}
use Rattle.clock.specs.declared.Ntp.{Ntp}
use Rattle.clock.specs.declared.NtpServerAddr.{NtpServerAddr}
use Rattle.clock.specs.declared.Ptp.{Ptp}
use Rattle.clock.specs.declared.PtpVersion.{PtpVersion}
use Rattle.clock.specs.declared.PtpServer.{PtpServer}
use Rattle.clock.specs.declared.Eui64.{Eui64}
use Rattle.clock.specs.declared.ClockSourceExt.{ClockSourceExt}

abbrev pub ntp : NtpServerAddr → Ntp
ntp s = record { server = s }

abbrev pub ptp : PtpVersion → PtpServer → Ptp
ptp v s = record { version = v; server = s }

abbrev pub eui64 : ℕ → Eui64
eui64 n = record { id = n }

abbrev pub clock_source_ext : Place → Option Place → ClockSourceExt
clock_source_ext n v = record { name = n; value = v }
