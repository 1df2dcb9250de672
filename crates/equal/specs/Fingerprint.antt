-- A number that records of one clock share, so that most others are told apart by it alone. Nothing rests on which number it is but the time of a
-- search. `proofs/Shared.antt` proves the statements.
use Rattle.std.specs.Prelude.{ℕ, suc, ◌/◌, ◌<◌, ◌≡◌, List, [], true, Some, None}
use Rattle.hostprint.specs.Mixed.{mixed, mixed_text}
use Rattle.hostprint.specs.Server.{print_of_host}
use Rattle.meaning.specs.Meaning.{Server, RefMeaning}
use Rattle.meaning.specs.Meaning as means
use Rattle.equal.specs.Alike.{Hosts, hosts_alike, OneClock}

-- The print of a host, which hosts that `hosts_alike` calls alike share: the one place that changes with it.
unfoldable pub host_print : List ℕ → ℕ
host_print h = print_of_host h

-- which clock and which form of it, and its numbers; of the second, which has 64 bits, both halves
unfoldable pub mixed_numbers : ℕ → ℕ → ℕ → ℕ → ℕ → ℕ → ℕ
mixed_numbers n kind form first second third =
    mixed (mixed (mixed (mixed (mixed (mixed n kind) form) first) (second / 4294967296)) second) third

-- a clock in columns: the print of its host, a name, its numbers, a value; what it does not have is 0 or no bytes there
unfoldable pub columns : ℕ → List ℕ → ℕ → ℕ → ℕ → ℕ → ℕ → List ℕ → ℕ
columns host name kind form first second third value =
    mixed_text (mixed_numbers (mixed_text host name) kind form first second third) value

-- PTP, of a version and its own name: traceable; a GMID alone; with a domain's name; with a domain's number
abbrev pub server_print : ℕ → ℕ → List ℕ → Server → ℕ
server_print host version own means.traceable = columns host own 2 version 0 0 0 []
server_print host version own (means.gmid g None) = columns host own 2 version 1 g 0 []
server_print host version own (means.gmid g (Some (means.name s))) = columns host own 2 version 2 g 0 s
server_print host version own (means.gmid g (Some (means.number d))) = columns host own 2 version 3 g d []

-- how hosts are printed is a parameter
unfoldable pub fingerprint : (List ℕ → ℕ) → RefMeaning → ℕ
fingerprint print means.ntp_traceable = columns (print []) [] 0 0 0 0 0 []
fingerprint print (means.ntp_host h None) = columns (print h) [] 1 0 0 0 0 []
fingerprint print (means.ntp_host h (Some port)) = columns (print h) [] 1 0 (suc port) 0 0 []
fingerprint print (means.ptp means.ieee1588_2002 s) = server_print (print []) 0 [] s
fingerprint print (means.ptp means.ieee1588_2008 s) = server_print (print []) 1 [] s
fingerprint print (means.ptp means.ieee802_1as_2011 s) = server_print (print []) 2 [] s
fingerprint print (means.ptp (means.own_version own) s) = server_print (print []) 3 own s
fingerprint print means.gps = columns (print []) [] 3 0 0 0 0 []
fingerprint print means.gal = columns (print []) [] 4 0 0 0 0 []
fingerprint print means.glonass = columns (print []) [] 5 0 0 0 0 []
fingerprint print means.local = columns (print []) [] 6 0 0 0 0 []
fingerprint print means.private_standard = columns (print []) [] 7 0 0 0 0 []
fingerprint print means.private_traceable = columns (print []) [] 8 0 0 0 0 []
fingerprint print (means.ref_ext name None) = columns (print []) name 9 0 0 0 0 []
fingerprint print (means.ref_ext name (Some value)) = columns (print []) name 9 0 1 0 0 value

-- what means one clock shares it, where hosts that are alike share their print
abbrev pub FingerprintShared : Type 0
FingerprintShared =
    (hosts : Hosts) (print : List ℕ → ℕ) → ((h g : List ℕ) → hosts h g ≡ true → print h ≡ print g)
    → (m n : RefMeaning) → OneClock hosts m n → fingerprint print m ≡ fingerprint print n

-- hosts that `hosts_alike` calls alike do
abbrev pub HostPrintShared : Type 0
HostPrintShared = (h g : List ℕ) → hosts_alike h g ≡ true → host_print h ≡ host_print g

-- so what `hosts_alike` makes one clock shares it
abbrev pub OneClockShares : Type 0
OneClockShares = (m n : RefMeaning) → OneClock hosts_alike m n → fingerprint host_print m ≡ fingerprint host_print n

-- it has 32 bits
abbrev pub FingerprintSmall : Type 0
FingerprintSmall = (print : List ℕ → ℕ) (m : RefMeaning) → fingerprint print m < 4294967296
