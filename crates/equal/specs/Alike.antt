-- When two ts-refclk records name one clock: they mean the same, but that hosts may be two names of one server. How hosts are compared is a parameter.
use Rattle.std.specs.Prelude.{ℕ, ◌≡◌, List, Bool, true, Option}
use Rattle.meaning.specs.Meaning.{RefMeaning, ntp_host}
use Rattle.hosts.specs.Server.{one_server}

-- a comparison of hosts
abbrev pub Hosts : Type 0
Hosts = List ℕ → List ℕ → Bool

-- Hosts that name one server: the one place that says so. Addresses are compared by family and number, others with letters alike in either case.
unfoldable pub hosts_alike : Hosts
hosts_alike s t = one_server s t

-- m and n mean one clock: they are equal, or two hosts that `hosts` calls alike, with one port
pub data OneClock (hosts : Hosts) (m n : RefMeaning) : Type 0 where
  equal : m ≡ n → OneClock hosts m n
  servers : (h g : List ℕ) (port : Option ℕ) → hosts h g ≡ true → m ≡ ntp_host h port → n ≡ ntp_host g port → OneClock hosts m n
