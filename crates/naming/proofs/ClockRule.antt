-- The rule by which values name clocks is there, and lawful. Assumes nothing.
use Rattle.std.specs.Prelude.{Result, Some, None, Ok, Err, Option}
use Prim.Native.Nat.{ℕ}
use mathlib.Core.Path.{◌≡◌, refl, sym, ap, ◌∙◌}
use mathlib.Core.Bool.{true, false}
use Rattle.text.proofs.Bools.{clash}
use Rattle.clock.specs.declared.PtpDomain.TheVariants.{DomainName, DomainNumber}
use Rattle.clock.specs.declared.PtpServer.{PtpServer}
use Rattle.clock.specs.declared.PtpServer.TheVariants as source
use Rattle.clock.specs.declared.PrivateSource.TheVariants as private
use Rattle.clock.specs.declared.NtpServerAddr.{NtpServerAddr}
use Rattle.clock.specs.declared.NtpServerAddr.TheVariants as server
use Rattle.clock.specs.declared.ReferenceClock.{ReferenceClock}
use Rattle.clock.specs.declared.ReferenceClock.TheVariants as clock
use Rattle.meaning.specs.ReferenceClock.{read_reference_clock}
use Rattle.meaning.specs.Meaning.{Domain, Server, RefMeaning, ref_meaning, server_means}
use Rattle.meaning.specs.Meaning as means
use Rattle.equal.specs.Alike.{Hosts, OneClock, equal, servers}
use Rattle.questions.specs.SameClock.{SameClock}
use Rattle.questions.specs.Private.Test.{same_clock}
use Rattle.questions.proofs.Owed.{same_clock_decides, same_classes}
use Rattle.streams.specs.Rule.{Value}
use Rattle.naming.specs.Domain.{server_domain, domain_in, read_domain, domain_of}
use Rattle.naming.specs.ClockRule.{is_accepted, ThereIs, IsLawful}
use Rattle.clock.specs.declared.Refusal.{Refusal}

-- the domain number, told from what a record means
abbrev domain_meant : Option Domain → Option ℕ
domain_meant None = None
domain_meant (Some (means.name s)) = None
domain_meant (Some (means.number n)) = Some n

abbrev server_meant : Server → Option ℕ
server_meant (means.gmid g d) = domain_meant d
server_meant means.traceable = None

abbrev clock_meant : RefMeaning → Option ℕ
clock_meant means.ntp_traceable = None
clock_meant (means.ntp_host h p) = None
clock_meant (means.ptp v s) = server_meant s
clock_meant means.gps = None
clock_meant means.gal = None
clock_meant means.glonass = None
clock_meant means.local = None
clock_meant means.private_standard = None
clock_meant means.private_traceable = None
clock_meant (means.ref_ext n v) = None

server_meant_lem : (v : Value) (s : PtpServer) → server_domain s ≡ server_meant (server_means v s)
server_meant_lem v source.Traceable = refl
server_meant_lem v (source.GmidDomain g None) = refl
server_meant_lem v (source.GmidDomain g (Some (DomainName p))) = refl
server_meant_lem v (source.GmidDomain g (Some (DomainNumber n))) = refl

clock_meant_lem : (v : Value) (c : ReferenceClock) → domain_in c ≡ clock_meant (ref_meaning v c)
unfolding domain_in ref_meaning
clock_meant_lem v (clock.Ntp n) = go n.server refl
  where
    go : (s : NtpServerAddr) → n.server ≡ s → domain_in (clock.Ntp n) ≡ clock_meant (ref_meaning v (clock.Ntp n))
    go server.Traceable e = simp e
    go (server.HostPort h p) e = simp e
clock_meant_lem v (clock.Ptp p) = server_meant_lem v p.server
clock_meant_lem v clock.Gps = refl
clock_meant_lem v clock.Gal = refl
clock_meant_lem v clock.Glonass = refl
clock_meant_lem v clock.Local = refl
clock_meant_lem v (clock.Private private.Standard) = refl
clock_meant_lem v (clock.Private private.Traceable) = refl
clock_meant_lem v (clock.Ext e) = refl

-- one clock has one domain number, however hosts are compared
one_meant : (hosts : Hosts) (m n : RefMeaning) → OneClock hosts m n → clock_meant m ≡ clock_meant n
one_meant hosts m n (equal e) = ap clock_meant e
one_meant hosts m n (servers h g port e a b) = rw (a, b) refl

pub accepted_domain : (v : Value) (c : ReferenceClock) → read_reference_clock v ≡ Ok c → domain_of v ≡ domain_in c
unfolding domain_of
accepted_domain v c e = simp e

pub same_domain : (v w : Value) → SameClock v w → domain_of v ≡ domain_of w
same_domain v w s =
    accepted_domain v s.first s.is_first ∙ clock_meant_lem v s.first ∙ one_meant _ _ _ s.one
    ∙ sym (accepted_domain w s.second s.is_second ∙ clock_meant_lem w s.second)

pub accepted_by : (v : Value) → is_accepted (read_reference_clock v) ≡ true → (c : ReferenceClock) × (read_reference_clock v ≡ Ok c)
accepted_by v h = go (read_reference_clock v) refl h
  where
    go : (x : Result ReferenceClock Refusal) → read_reference_clock v ≡ x → is_accepted x ≡ true → (c : ReferenceClock) × (read_reference_clock v ≡ Ok c)
    go (Ok c) e h = (c, e)
    go (Err r) e h = clash (cc)

pub refused_domain : (v : Value) → is_accepted (read_reference_clock v) ≡ false → domain_of v ≡ None
unfolding domain_of
refused_domain v h = go (read_reference_clock v) h
  where
    go : (x : Result ReferenceClock Refusal) → is_accepted x ≡ false → read_domain x ≡ None
    go (Ok c) h = clash (cc)
    go (Err r) h = refl

pub there_is : ThereIs
there_is =
    record {
      rule = record { accepted = λ v. is_accepted (read_reference_clock v); same = same_clock; domain = domain_of };
      meets = record { accepted = λ v. refl; same = same_clock_decides; domain = λ v. refl };
    }

pub is_lawful : IsLawful
is_lawful R K =
    record {
      to_self = λ v h. let a = accepted_by v (sym (K.accepted v) ∙ h) in (K.same v v).found (same_classes.to_self v a.0 a.1);
      back = λ v w e. (K.same w v).found (same_classes.back v w ((K.same v w).right e));
      on = λ v w x e f. (K.same v x).found (same_classes.on v w x ((K.same v w).right e) ((K.same w x).right f));
      first = λ v w e. K.accepted v ∙ ap is_accepted ((K.same v w).right e).is_first;
      one_domain = λ v w e. K.domain v ∙ same_domain v w ((K.same v w).right e) ∙ sym (K.domain w);
      no_domain = λ v h. K.domain v ∙ refused_domain v (sym (K.accepted v) ∙ h);
    }
