-- What the two questions owe. `proofs/Owed.antt` proves each of these statements.
use Rattle.std.specs.Prelude.{ℕ, ◌≡◌, ◌↔◌, List, [], true, Option, Ok, Some, None}
use Rattle.text.specs.Place.{bytes_at}
use Rattle.eui64.specs.Eui64.{eui64_of}
use Rattle.clock.specs.Records.{ptp}
use Rattle.clock.specs.declared.Eui64.{Eui64}
use Rattle.clock.specs.declared.PtpVersion.{PtpVersion}
use Rattle.clock.specs.declared.PtpServer.TheVariants.{GmidDomain}
use Rattle.clock.specs.declared.ReferenceClock.{ReferenceClock}
use Rattle.clock.specs.declared.ReferenceClock.TheVariants.{Ptp}
use Rattle.meaning.specs.ReferenceClock.{read_reference_clock}
use Rattle.meaning.specs.Meaning.{RefMeaning, ref_meaning}
use Rattle.meaning.specs.Meaning as means
use Rattle.meaning.specs.Demand3.{SameReferenceClock}
use Rattle.equal.specs.Alike.{hosts_alike}
use Rattle.questions.specs.SameClock.{SameClock}
use Rattle.questions.specs.Governing.{gmid_place}
use Rattle.clock.specs.declared.PtpDomain.{PtpDomain}

-- the same-clock question sorts accepted values into classes
pub record Classes : Type 0 where
  pub to_self : (v : List ℕ) (c : ReferenceClock) → read_reference_clock v ≡ Ok c → SameClock v v
  pub back : (v w : List ℕ) → SameClock v w → SameClock w v
  pub on : (v w x : List ℕ) → SameClock v w → SameClock w x → SameClock v x

-- both values are accepted, and the records are equal
pub record EqualRecords (v w : List ℕ) : Type 0 where
  pub first : ReferenceClock
  pub second : ReferenceClock
  pub is_first : read_reference_clock v ≡ Ok first
  pub is_second : read_reference_clock w ≡ Ok second
  pub equal : SameReferenceClock v first w second

-- equal records are the same clock
abbrev pub EqualIsSame : Type 0
EqualIsSame = (v w : List ℕ) → EqualRecords v w → SameClock v w

-- the host in a record, where there is one
abbrev pub host_in : RefMeaning → Option (List ℕ)
host_in means.ntp_traceable = None
host_in (means.ntp_host h port) = Some h
host_in (means.ptp version server) = None
host_in means.gps = None
host_in means.gal = None
host_in means.glonass = None
host_in means.local = None
host_in means.private_standard = None
host_in means.private_traceable = None
host_in (means.ref_ext name value) = None

-- the record with no bytes for its host
abbrev pub without_host : RefMeaning → RefMeaning
without_host means.ntp_traceable = means.ntp_traceable
without_host (means.ntp_host h port) = means.ntp_host [] port
without_host (means.ptp version server) = means.ptp version server
without_host means.gps = means.gps
without_host means.gal = means.gal
without_host means.glonass = means.glonass
without_host means.local = means.local
without_host means.private_standard = means.private_standard
without_host means.private_traceable = means.private_traceable
without_host (means.ref_ext name value) = means.ref_ext name value

-- both values are accepted, and the records are equal but for hosts, which are alike
pub record EqualButHosts (v w : List ℕ) : Type 0 where
  pub first : ReferenceClock
  pub second : ReferenceClock
  pub is_first : read_reference_clock v ≡ Ok first
  pub is_second : read_reference_clock w ≡ Ok second
  pub equal_but : without_host (ref_meaning v first) ≡ without_host (ref_meaning w second)
  pub alike : (h g : List ℕ) → host_in (ref_meaning v first) ≡ Some h → host_in (ref_meaning w second) ≡ Some g → hosts_alike h g ≡ true

-- the same clock is just that
abbrev pub SameIsEqualButHosts : Type 0
SameIsEqualButHosts = (v w : List ℕ) → SameClock v w ↔ EqualButHosts v w

-- the text at the GMID's place is the GMID: it reads as the record's
abbrev pub GmidThere : Type 0
GmidThere =
    (v : List ℕ) (x : PtpVersion) (g : Eui64) (d : Option PtpDomain) → read_reference_clock v ≡ Ok (Ptp (ptp x (GmidDomain g d)))
    → eui64_of (bytes_at (gmid_place v) v) ≡ Ok g.id
