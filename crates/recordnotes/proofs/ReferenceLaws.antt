-- One law for each way out of the functions that note a ts-refclk record. Assumes nothing.
use Rattle.std.specs.Prelude.{Option, Some, None}
use Prim.Native.Nat.{ℕ}
use mathlib.Core.Path.{◌≡◌}
use mathlib.Core.List.{List}
use native.Mathlib.Omega.{arith}
use Rattle.text.specs.Word.{word}
use Rattle.text.specs.declared.Place.{Place}
use Rattle.number.specs.Decimal.{decimal}
use Rattle.number.specs.Hex.{hex_capitals}
use Rattle.clock.specs.declared.Eui64.{Eui64}
use Rattle.clock.specs.declared.NtpServerAddr.{NtpServerAddr}
use Rattle.clock.specs.declared.NtpServerAddr.TheVariants as server
use Rattle.clock.specs.declared.PtpVersion.{PtpVersion}
use Rattle.clock.specs.declared.PtpVersion.TheVariants as version
use Rattle.clock.specs.declared.PtpDomain.{PtpDomain}
use Rattle.clock.specs.declared.PtpDomain.TheVariants.{DomainName, DomainNumber}
use Rattle.clock.specs.declared.PtpServer.{PtpServer}
use Rattle.clock.specs.declared.PtpServer.TheVariants as source
use Rattle.clock.specs.declared.PrivateSource.{PrivateSource}
use Rattle.clock.specs.declared.PrivateSource.TheVariants as private
use Rattle.clock.specs.declared.Ntp.{Ntp}
use Rattle.clock.specs.declared.Ptp.{Ptp}
use Rattle.clock.specs.declared.ClockSourceExt.{ClockSourceExt}
use Rattle.clock.specs.declared.ReferenceClock.{ReferenceClock}
use Rattle.clock.specs.declared.ReferenceClock.TheVariants as clock
use Rattle.room.specs.Put.{Put}
use Rattle.room.proofs.Laws.{put_then, put_wider}
use Rattle.recordnotes.specs.Notation.{place_note, extension_note, port_note, ntp_note, version_note, domain_note}
use Rattle.recordnotes.specs.Notation.{opt_domain_note, server_note, ptp_note, private_note, reference_clock_note}

module _ {l : List ℕ} {at last : ℕ} {r : List ℕ} where
  -- `put_port`
  module _ (x : Option ℕ) where
    pub port_none : x ≡ None → Put 1 l at (word "-") last r → Put 10 l at (port_note x) last r
    port_none e f = rw e (put_wider f (omega arith))

    pub port_some : (n : ℕ) → x ≡ Some n → Put 10 l at (decimal n) last r → Put 10 l at (port_note x) last r
    port_some n e f = rw e f

  -- `put_ntp`
  module _ (x : NtpServerAddr) where
    pub ntp_traceable_lem : x ≡ server.Traceable → Put 13 l at (word "ntp traceable") last r → Put 56 l at (ntp_note x) last r
    ntp_traceable_lem e f = rw e (put_wider f (omega arith))

    pub ntp_host_lem : (p : Place) (port : Option ℕ) {a b c : ℕ} {k m n : List ℕ} → x ≡ server.HostPort p port → Put 4 l at (word "ntp ") a k
        → Put 41 k a (place_note p) b m → Put 1 m b (word " ") c n → Put 10 n c (port_note port) last r → Put 56 l at (ntp_note x) last r
    ntp_host_lem p port e f g h i = rw e (put_then (put_then (put_then f g) h) i)

  -- `put_version`
  module _ (x : PtpVersion) where
    pub version_2002 : x ≡ version.Ieee1588_2002 → Put 4 l at (word "2002") last r → Put 41 l at (version_note x) last r
    version_2002 e f = rw e (put_wider f (omega arith))

    pub version_2008 : x ≡ version.Ieee1588_2008 → Put 4 l at (word "2008") last r → Put 41 l at (version_note x) last r
    version_2008 e f = rw e (put_wider f (omega arith))

    pub version_2011 : x ≡ version.Ieee8021As_2011 → Put 4 l at (word "2011") last r → Put 41 l at (version_note x) last r
    version_2011 e f = rw e (put_wider f (omega arith))

    pub version_own : (p : Place) → x ≡ version.Ext p → Put 41 l at (place_note p) last r → Put 41 l at (version_note x) last r
    version_own p e f = rw e f

  -- `put_domain`, `put_opt_domain`
  module _ (x : PtpDomain) {next : ℕ} {m : List ℕ} where
    pub domain_name : (p : Place) → x ≡ DomainName p → Put 5 l at (word "name ") next m → Put 41 m next (place_note p) last r
        → Put 46 l at (domain_note x) last r
    domain_name p e f g = rw e (put_then f g)

    pub domain_number : (n : ℕ) → x ≡ DomainNumber n → Put 7 l at (word "number ") next m → Put 10 m next (decimal n) last r
        → Put 46 l at (domain_note x) last r
    domain_number n e f g = rw e (put_wider (put_then f g) (omega arith))

  module _ (x : Option PtpDomain) where
    pub domain_none : x ≡ None → Put 1 l at (word "-") last r → Put 46 l at (opt_domain_note x) last r
    domain_none e f = rw e (put_wider f (omega arith))

    pub domain_some : (d : PtpDomain) → x ≡ Some d → Put 46 l at (domain_note d) last r → Put 46 l at (opt_domain_note x) last r
    domain_some d e f = rw e f

  -- `put_server`
  module _ (x : PtpServer) where
    pub server_traceable : x ≡ source.Traceable → Put 9 l at (word "traceable") last r → Put 63 l at (server_note x) last r
    server_traceable e f = rw e (put_wider f (omega arith))

    pub server_gmid : (g : Eui64) (d : Option PtpDomain) {a b : ℕ} {m n : List ℕ} → x ≡ source.GmidDomain g d → Put 16 l at (hex_capitals 16 g.id) a m
        → Put 1 m a (word " ") b n → Put 46 n b (opt_domain_note d) last r → Put 63 l at (server_note x) last r
    server_gmid g d e f h i = rw e (put_then (put_then f h) i)

  -- `put_ptp`
  pub ptp_put : (v : PtpVersion) (s : PtpServer) {a b c : ℕ} {k m n : List ℕ} → Put 4 l at (word "ptp ") a k → Put 41 k a (version_note v) b m
      → Put 1 m b (word " ") c n → Put 63 n c (server_note s) last r → Put 109 l at (ptp_note v s) last r
  ptp_put v s f g h i = put_then (put_then (put_then f g) h) i

  -- `put_private`
  module _ (x : PrivateSource) where
    pub private_standard_lem : x ≡ private.Standard → Put 7 l at (word "private") last r → Put 17 l at (private_note x) last r
    private_standard_lem e f = rw e (put_wider f (omega arith))

    pub private_traceable_lem : x ≡ private.Traceable → Put 17 l at (word "private traceable") last r → Put 17 l at (private_note x) last r
    private_traceable_lem e f = rw e f

  -- `note_reference_clock`
  module _ (x : ReferenceClock) where
    pub clock_ntp : (n : Ntp) → x ≡ clock.Ntp n → Put 56 l at (ntp_note n.server) last r → Put 109 l at (reference_clock_note x) last r
    unfolding reference_clock_note
    clock_ntp n e f = rw e (put_wider f (omega arith))

    pub clock_ptp : (p : Ptp) → x ≡ clock.Ptp p → Put 109 l at (ptp_note p.version p.server) last r
        → Put 109 l at (reference_clock_note x) last r
    unfolding reference_clock_note
    clock_ptp p e f = rw e f

    pub clock_gps : x ≡ clock.Gps → Put 3 l at (word "gps") last r → Put 109 l at (reference_clock_note x) last r
    unfolding reference_clock_note
    clock_gps e f = rw e (put_wider f (omega arith))

    pub clock_gal : x ≡ clock.Gal → Put 3 l at (word "gal") last r → Put 109 l at (reference_clock_note x) last r
    unfolding reference_clock_note
    clock_gal e f = rw e (put_wider f (omega arith))

    pub clock_glonass : x ≡ clock.Glonass → Put 7 l at (word "glonass") last r → Put 109 l at (reference_clock_note x) last r
    unfolding reference_clock_note
    clock_glonass e f = rw e (put_wider f (omega arith))

    pub clock_local : x ≡ clock.Local → Put 5 l at (word "local") last r → Put 109 l at (reference_clock_note x) last r
    unfolding reference_clock_note
    clock_local e f = rw e (put_wider f (omega arith))

    pub clock_private : (p : PrivateSource) → x ≡ clock.Private p → Put 17 l at (private_note p) last r → Put 109 l at (reference_clock_note x) last r
    unfolding reference_clock_note
    clock_private p e f = rw e (put_wider f (omega arith))

    pub clock_ext : (c : ClockSourceExt) → x ≡ clock.Ext c → Put 87 l at (extension_note c.name c.value) last r
        → Put 109 l at (reference_clock_note x) last r
    unfolding reference_clock_note
    clock_ext c e f = rw e (put_wider f (omega arith))

pub ruleset laws = (
  port_none,
  port_some,
  ntp_traceable_lem,
  ntp_host_lem,
  version_2002,
  version_2008,
  version_2011,
  version_own,
  domain_name,
  domain_number,
  domain_none,
  domain_some,
  server_traceable,
  server_gmid,
  ptp_put,
  private_standard_lem,
  private_traceable_lem,
  clock_ntp,
  clock_ptp,
  clock_gps,
  clock_gal,
  clock_glonass,
  clock_local,
  clock_private,
  clock_ext,
)
