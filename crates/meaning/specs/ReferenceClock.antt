-- What a ts-refclk value reads as: the reading rules in their order. Each part is read at its place: `at` is where the text s starts in the
-- whole value, and every place that is answered counts from the start of the value.
use Rattle.std.specs.Prelude.{ℕ, ◌+◌, ◌-◌, List, cond, ltb, eqb, length, take, drop, Result, Option, Some, None, Ok, Err}
use Rattle.text.specs.Find.{before, before_pair, through_last}
use Rattle.text.specs.Word.{word, same, starts, ends_in}
use Rattle.text.specs.Place.{place}
use Rattle.number.specs.Decimal.{number_of}
use Rattle.eui64.specs.Eui64.{eui64_of}
use Rattle.ipaddr.specs.Address.{ip_address}
use Rattle.clock.specs.Refusal.{refusal}
use Rattle.clock.specs.Records.{ntp, ptp, eui64, clock_source_ext}
use Rattle.clock.specs.declared.Refusal.{Refusal}
use Rattle.clock.specs.declared.Eui64.{Eui64}
use Rattle.clock.specs.declared.NtpServerAddr.{NtpServerAddr}
use Rattle.clock.specs.declared.NtpServerAddr.TheVariants as server
use Rattle.clock.specs.declared.PtpVersion.{PtpVersion}
use Rattle.clock.specs.declared.PtpVersion.TheVariants as version
use Rattle.clock.specs.declared.PtpServer.{PtpServer}
use Rattle.clock.specs.declared.PtpServer.TheVariants as source
use Rattle.clock.specs.declared.Ptp.{Ptp}
use Rattle.clock.specs.declared.PrivateSource.TheVariants as private
use Rattle.clock.specs.declared.ReferenceClock.{ReferenceClock}
use Rattle.clock.specs.declared.ReferenceClock.TheVariants as clock
use Rattle.meaning.specs.Answer.{Answer, refuse, ◌>>=◌, empty, or_refuse, extension_of, guarded}
use Rattle.meaning.specs.Domain.{Spelling, bare}
use Rattle.eui64.specs.declared.Fault.{Fault}
use Rattle.clock.specs.declared.PtpDomain.{PtpDomain}

-- NTP: a port, which is refused with r
unfoldable pub port_of : Refusal → List ℕ → Answer (Option ℕ)
port_of r s = or_refuse (number_of 65535 s) r >>= λ n. Ok (Some n)

-- the part inside the brackets, which must itself be an IP address, is the host
unfoldable pub address_of : Refusal → ℕ → List ℕ → Option ℕ → Answer NtpServerAddr
address_of r at s port = cond (ip_address s) (Ok (server.HostPort (place at (length s)) port)) (Err r)

-- the bracket rule drops the "[" and cuts at the first "]:", reading the port first; without "]:" it must end in "]"
unfoldable pub bracket_of : ℕ → List ℕ → Answer NtpServerAddr
bracket_of at s =
    let t = drop 1 s in
    let i = before_pair 93 58 t in
    let broken = refusal 4 at (length s) in
    cond (ltb i (length t))
    (port_of broken (drop (i + 2) t) >>= λ port. address_of broken (at + 1) (take i t) port)
    (cond (ends_in 93 t) (address_of broken (at + 1) (take (length t - 1) t) None) (Err broken))

-- cut at the last ":", the host must not be empty, then the port is read; without ":" all of it is the host
unfoldable pub host_of : ℕ → List ℕ → Answer NtpServerAddr
host_of at s =
    let d = through_last 58 s in
    cond (eqb d 0) (Ok (server.HostPort (place at (length s)) None))
    (cond (eqb d 1) (refuse 5 at 0)
    (port_of (refusal 6 (at + d) (length s - d)) (drop d s) >>= λ port. Ok (server.HostPort (place at (d - 1)) port)))

-- empty is refused; "/traceable/"; a bare IP address; if it starts with "[", the bracket rule; else a host
unfoldable pub ntp_of : ℕ → List ℕ → Answer NtpServerAddr
ntp_of at s =
    cond (empty s) (refuse 3 at 0)
    (cond (same s (word "/traceable/")) (Ok server.Traceable)
    (cond (ip_address s) (Ok (server.HostPort (place at (length s)) None))
    (cond (starts (word "[") s) (bracket_of at s)
    (host_of at s))))

-- PTP: one of three versions, else a version of its own; a missing one is refused
unfoldable pub version_of : ℕ → List ℕ → Answer PtpVersion
version_of at s =
    cond (empty s) (refuse 7 at 0)
    (cond (same s (word "IEEE1588-2002")) (Ok version.Ieee1588_2002)
    (cond (same s (word "IEEE1588-2008")) (Ok version.Ieee1588_2008)
    (cond (same s (word "IEEE802.1AS-2011")) (Ok version.Ieee8021As_2011)
    (Ok (version.Ext (place at (length s)))))))

abbrev pub gmid_or : Result ℕ Fault → Refusal → Answer Eui64
gmid_or (Ok n) r = Ok (eui64 n)
gmid_or (Err fault) r = Err r

unfoldable pub gmid_of : ℕ → List ℕ → Answer Eui64
gmid_of at s = gmid_or (eui64_of s) (refusal 9 at (length s))

-- an extension as a clock
abbrev pub extension_clock_of : List ℕ → Answer ReferenceClock
extension_clock_of s = extension_of clock_source_ext 11 0 s >>= λ e. Ok (clock.Ext e)

module _ (spelling : Spelling) where
  -- what stands behind the GMID, i bytes into s: nothing, or ":" and the domain
  unfoldable pub domain_of : ℕ → ℕ → List ℕ → Answer (Option PtpDomain)
  domain_of i at s =
      cond (ltb i (length s)) (spelling.read (at + (i + 1)) (drop (i + 1) s) >>= λ d. Ok (Some d)) (Ok None)

  -- the server: empty is refused; "traceable"; else the GMID up to the next ":", and the domain after it
  unfoldable pub server_of : ℕ → List ℕ → Answer PtpServer
  server_of at s =
      let i = before 58 s in
      cond (empty s) (refuse 8 at 0)
      (cond (same s (word "traceable")) (Ok source.Traceable)
      (gmid_of at (take i s) >>= λ g. domain_of i at s >>= λ d. Ok (source.GmidDomain g d)))

  -- cut at the first ":"; the version is taken first, then the server
  unfoldable pub ptp_of : ℕ → List ℕ → Answer Ptp
  ptp_of at s =
      let i = before 58 s in
      cond (ltb i (length s))
      (version_of at (take i s) >>= λ v. server_of (at + (i + 1)) (drop (i + 1) s) >>= λ w. Ok (ptp v w))
      (refuse 7 at 0)

  -- "ntp="; "ptp="; the whole words; else an extension
  unfoldable pub clock_of : List ℕ → Answer ReferenceClock
  clock_of s =
      cond (starts (word "ntp=") s) (ntp_of 4 (drop 4 s) >>= λ w. Ok (clock.Ntp (ntp w)))
      (cond (starts (word "ptp=") s) (ptp_of 4 (drop 4 s) >>= λ p. Ok (clock.Ptp p))
      (cond (same s (word "gps")) (Ok clock.Gps)
      (cond (same s (word "gal")) (Ok clock.Gal)
      (cond (same s (word "glonass")) (Ok clock.Glonass)
      (cond (same s (word "local")) (Ok clock.Local)
      (cond (same s (word "private")) (Ok (clock.Private private.Standard))
      (cond (same s (word "private:traceable")) (Ok (clock.Private private.Traceable))
      (extension_clock_of s))))))))

  -- the whole value
  unfoldable pub reference_clock_of : List ℕ → Answer ReferenceClock
  reference_clock_of s = guarded s (clock_of s)

-- what the reader answers
unfoldable pub read_reference_clock : List ℕ → Answer ReferenceClock
read_reference_clock s = reference_clock_of bare s
