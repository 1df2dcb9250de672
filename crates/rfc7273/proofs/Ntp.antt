-- NTP: hostport and "/traceable/". Assumes nothing.
use Rattle.std.specs.Prelude.{Some, None, Ok, Option}
use Prim.Native.Nat.{ℕ, suc, ◌-◌, ◌<◌}
use mathlib.Core.Path.{◌≡◌, refl, ap, ◌∙◌}
use mathlib.Core.Bool.{true, false}
use mathlib.Core.List.{List, [], ◌∷◌, ◌++◌, append_assoc}
use native.Mathlib.Omega.{arith}
use native.Mathlib.Numerals.{add-one}
use lib.Dec.{eqb}
use lib.ListN.{length, take, drop, length-append}
use lib.Seq.{take_at, drop-append-add}
use borrow.Author.Tests.{ne_eqb, eq-eqb, eqb-false, lt-ltb, le-ltb}
use Rattle.text.specs.Find.{before, before_pair, through_last}
use Rattle.text.specs.Word.{word, same, starts, ends_in}
use Rattle.text.specs.Place.{place, bytes_at}
use Rattle.text.proofs.Bools.{by_bool, or_right}
use Rattle.text.proofs.Cuts.{same_eq, free_last, last_join, drop_join, pair_join, pair_skip}
use Rattle.abnf.specs.Rule.{Rule, nothing, range, ◌or◌, ◌then◌, ◌then_many◌, times, one_or_more}
use Rattle.abnf.proofs.Free.{Lacks, free_laws}
use Rattle.abnf.proofs.Sizes.{count_of, count_append, count_none}
use Rattle.number.specs.Decimal.{value_from, number_of}
use Rattle.utf8.specs.Utf8.{utf8_of}
use Rattle.utf8.proofs.Text.{utf8_ascii, utf8_append, utf8_all_ascii}
use Rattle.ipaddr.specs.Address.{digit, ipv4address, dec_octet, ipv6address, ip_address}
use Rattle.ipaddr.proofs.Fits.{address_byte, address_lacks, one_colon}
use Rattle.clock.specs.declared.NtpServerAddr.TheVariants.{HostPort}
use Rattle.meaning.specs.ReferenceClock.{port_of, address_of, bracket_of, host_of, ntp_of}
use Rattle.meaning.specs.Meaning.{RefMeaning, ntp_traceable, ntp_host, ntp_means}
use Rattle.meaning.proofs.Told.{further, bytes_front, bytes_all}
use Rattle.meaning.proofs.NtpHost.{no_close, address_alone, address_form, first_byte}
use Rattle.rfc7273.specs.Manner.{narrowed}
use Rattle.rfc7273.specs.Elsewhere.{alpha, alphanum, domainlabel, toplabel, hostname, port}
use Rattle.rfc7273.specs.Means.{HostText, hostname_text, ipv4_text, ipv6_text, HostportText, without_port, with_port}
use Rattle.rfc7273.proofs.Laws.{Reads, of_only, lacks_before, high_range, Low, low_well, never_empty}
use Rattle.rfc7273.proofs.Parts.{digits_are, number_read}

-- a server of well-formed bytes, which reads as what means m
pub record Server (t : List ℕ) (m : RefMeaning) : Type 0 where
  pub well : utf8_of t ≡ (Ok tt)
  pub read : (w : List ℕ) → drop 4 w ≡ t → Reads (ntp_of 4 t) (ntp_means w) m

-- what is not "/traceable/" and no address is read by the bracket rule or as a host
module _ (t : List ℕ) (l : 0 < length t) (n : same t (word "/traceable/") ≡ false) (a : ip_address t ≡ false) where
  by_bracket : starts (word "[") t ≡ true → ntp_of 4 t ≡ bracket_of 4 t
  unfolding ntp_of
  by_bracket c = simp (ne_eqb (length t) 0 (λ z. omega arith), n, a, c)

  by_host : starts (word "[") t ≡ false → ntp_of 4 t ≡ host_of 4 t
  unfolding ntp_of
  by_host c = simp (ne_eqb (length t) 0 (λ z. omega arith), n, a, c)

-- a port: digits within 16 bits
record Port (p : List ℕ) : Type 0 where
  read : number_of 65535 p ≡ Ok (value_from 0 p)
  free : through_last 58 p ≡ 0
  well : utf8_of p ≡ (Ok tt)

digits_colon : Lacks 58 (one_or_more digit)
digits_colon = search free_laws depth 10

digits_low : Low (one_or_more digit)
digits_low c h = search (free_laws, high_range) depth 10

of_port : (p : List ℕ) → port narrowed p ≡ true → Port p
unfolding port
of_port =
    of_only Port (λ p h k.
    record {
      read = number_read 65535 p (digits_are 48 refl p h) k;
      free = free_last 58 p (lacks_before digits_colon p h);
      well = low_well digits_low p h;
    })

-- a name or an IPv4address: it has bytes, no slash and no colon, and does not begin with a bracket
record Plain (h : List ℕ) : Type 0 where
  some : 0 < length h
  no_slash : before 47 h ≡ length h
  no_colon : through_last 58 h ≡ 0
  no_bracket : starts (word "[") h ≡ false
  well : utf8_of h ≡ (Ok tt)

not_first : (h : List ℕ) → 0 < length h → before 91 h ≡ length h → starts (word "[") h ≡ false
unfolding before same
not_first [] l e = absurd (omega arith)
not_first (x ∷ h) l e = by_bool (eqb x 91) (λ k. absurd (omega (arith, simp k at e))) (λ k. simp k)

plain : (p : Rule) → p [] ≡ false → Lacks 47 p → Lacks 58 p → Lacks 91 p → Low p → (h : List ℕ) → p h ≡ true → Plain h
plain p e slash colon bracket low h k =
    record {
      some = never_empty p e h k;
      no_slash = lacks_before slash h k;
      no_colon = free_last 58 h (lacks_before colon h k);
      no_bracket = not_first h (never_empty p e h k) (lacks_before bracket h k);
      well = low_well low h k;
    }

module _ (h : List ℕ) (r : Plain h) where
  not_traceable : same h (word "/traceable/") ≡ false
  unfolding before
  not_traceable =
      by_bool (same h (word "/traceable/"))
      (λ e. absurd (omega (arith, r.some, r.no_slash, ap (before 47) (same_eq h (word "/traceable/") e)))) (λ e. e)

  alone_is : ntp_of 4 h ≡ Ok (HostPort (place 4 (length h)) None)
  unfolding host_of
  alone_is =
      by_bool (ip_address h) (address_alone h)
      (λ a. by_host h r.some not_traceable a r.no_bracket ∙ simp r.no_colon)

  plain_alone : Server h (ntp_host h None)
  plain_alone = record { well = r.well; read = λ w q. record { made = _; is = alone_is; tells = rw (bytes_all w 4 h q) } }

  module _ (p : List ℕ) (q : Port p) where
    abbrev ported : List ℕ
    ported = h ++ 58 ∷ p

    last_colon : through_last 58 ported ≡ suc (length h)
    last_colon = last_join 58 h p q.free

    ported_not_traceable : same ported (word "/traceable/") ≡ false
    unfolding through_last
    ported_not_traceable =
        by_bool (same ported (word "/traceable/"))
        (λ e. absurd (omega (arith, last_colon, ap (through_last 58) (same_eq ported (word "/traceable/") e)))) (λ e. e)

    ported_no_address : ip_address ported ≡ false
    unfolding count_of
    ported_no_address = one_colon ported (omega (arith, count_append 58 h (58 ∷ p), count_none 58 h r.no_colon, count_none 58 p q.free))

    port_is : ntp_of 4 ported ≡ Ok (HostPort (place 4 (length h)) (Some (value_from 0 p)))
    unfolding host_of port_of
    port_is =
        let d : drop (suc (length h)) ported ≡ p = rw add-one at (drop_join h 58 p (length h) refl) in
        let o : suc (length h) - 1 ≡ length h = omega arith in
        by_host ported (omega (arith, length-append h (58 ∷ p))) ported_not_traceable ported_no_address (first_byte h (58 ∷ p) r.some ∙ r.no_bracket)
        ∙ simp (last_colon, ne_eqb (suc (length h)) 0 (λ z. omega arith), ne_eqb (suc (length h)) 1 (λ z. omega (arith, r.some)), d, q.read, o)

    plain_port : Server ported (ntp_host h (Some (value_from 0 p)))
    plain_port =
        record {
          well = utf8_append h (58 ∷ p) r.well (utf8_ascii 58 p (omega arith) q.well);
          read = λ w e. record { made = _; is = port_is; tells = rw (bytes_front w 4 h (58 ∷ p) e) };
        }

-- an address in brackets
pair_none : (a b : ℕ) (x : List ℕ) → before a x ≡ length x → before_pair a b (x ++ a ∷ []) ≡ length (x ++ a ∷ [])
unfolding before before_pair
pair_none a b [] h = refl
pair_none a b (c ∷ x) h =
    by_bool (eqb c a) (λ e. absurd (omega (arith, simp e at h)))
    (λ e. pair_skip a b c (x ++ a ∷ []) (eqb-false c a e) ∙ ap suc (pair_none a b x (omega (arith, simp e at h))))

ends_join : (b : ℕ) (x : List ℕ) → ends_in b (x ++ b ∷ []) ≡ true
unfolding ends_in
ends_join b [] = eq-eqb b b refl
ends_join b (c ∷ []) = eq-eqb b b refl
ends_join b (c ∷ d ∷ x) = ends_join b (d ∷ x)

bracketed : (t : List ℕ) → ntp_of 4 (91 ∷ t) ≡ bracket_of 4 (91 ∷ t)
unfolding same address_byte
bracketed t = by_bracket (91 ∷ t) (omega arith) refl ((address_lacks 91 refl).free [] t) refl

module _ (x : List ℕ) (h : ipv6address x ≡ true) where
  address : ip_address x ≡ true
  unfolding ip_address ◌or◌
  address = or_right (ipv4address x) h

  -- behind the bracket, over a value
  inside : (w y : List ℕ) → drop 4 w ≡ 91 ∷ (x ++ y) → bytes_at (place 5 (length x)) w ≡ x
  inside w y q = bytes_front w 5 x y (further w 4 1 (91 ∷ (x ++ y)) q)

  bracket_alone_is : ntp_of 4 (91 ∷ (x ++ 93 ∷ [])) ≡ Ok (HostPort (place 5 (length x)) None)
  unfolding bracket_of address_of
  bracket_alone_is =
      let t = x ++ 93 ∷ [] in
      let e : take (length t - 1) t ≡ x = take_at x (93 ∷ []) (length t - 1) (omega (arith, length-append x (93 ∷ []))) in
      bracketed t ∙ simp (pair_none 93 58 x (no_close x address), le-ltb (length t) (length t) (omega arith), ends_join 93 x, e, address)

  bracket_alone : Server (91 ∷ (x ++ 93 ∷ [])) (ntp_host x None)
  bracket_alone =
      record {
        well =
            utf8_ascii 91 (x ++ 93 ∷ []) (omega arith)
            (utf8_append x (93 ∷ []) (address_form x address) (utf8_all_ascii (93 ∷ []) refl));
        read = λ w q. record { made = _; is = bracket_alone_is; tells = rw (inside w (93 ∷ []) q) };
      }

  module _ (p : List ℕ) (q : Port p) where
    bracket_port_is : ntp_of 4 (91 ∷ (x ++ 93 ∷ 58 ∷ p)) ≡ Ok (HostPort (place 5 (length x)) (Some (value_from 0 p)))
    unfolding bracket_of address_of port_of
    bracket_port_is =
        let t = x ++ 93 ∷ 58 ∷ p in
        bracketed t
        ∙ simp (
          pair_join 93 58 x p (no_close x address),
          lt-ltb (length x) (length t) (omega (arith, length-append x (93 ∷ 58 ∷ p))),
          drop-append-add x (93 ∷ 58 ∷ p) 2,
          q.read,
          take_at x (93 ∷ 58 ∷ p) (length x) refl,
          address,
        )

    bracket_port : Server (91 ∷ (x ++ 93 ∷ 58 ∷ p)) (ntp_host x (Some (value_from 0 p)))
    bracket_port =
        record {
          well =
              utf8_ascii 91 (x ++ 93 ∷ 58 ∷ p) (omega arith)
              (utf8_append x (93 ∷ 58 ∷ p) (address_form x address)
              (utf8_ascii 93 (58 ∷ p) (omega arith) (utf8_ascii 58 p (omega arith) q.well)));
          read = λ w e. record { made = _; is = bracket_port_is; tells = rw (inside w (93 ∷ 58 ∷ p) e) };
        }

-- each host, alone and with a port
hostname_some : hostname [] ≡ false
unfolding hostname domainlabel toplabel alphanum alpha ◌then◌ ◌then_many◌ range ◌or◌ nothing
hostname_some = refl

four_some : ipv4address [] ≡ false
unfolding ipv4address dec_octet ◌then◌ range ◌or◌ nothing times
four_some = refl

hostname_plain : (x : List ℕ) → hostname x ≡ true → Plain x
unfolding hostname domainlabel toplabel alphanum alpha
hostname_plain =
    plain hostname hostname_some (search free_laws depth 40) (search free_laws depth 40) (search free_laws depth 40)
    (λ c h. search (free_laws, high_range) depth 40)

four_plain : (x : List ℕ) → ipv4address x ≡ true → Plain x
unfolding ipv4address dec_octet
four_plain =
    plain ipv4address four_some (search free_laws depth 40) (search free_laws depth 40) (search free_laws depth 40)
    (λ c h. search (free_laws, high_range) depth 40)

host_alone : {s h : List ℕ} → HostText s h → Server s (ntp_host h None)
host_alone (hostname_text s k) = plain_alone s (hostname_plain s k)
host_alone (ipv4_text s k) = plain_alone s (four_plain s k)
host_alone (ipv6_text s k) = bracket_alone s k

host_port : {s h : List ℕ} → HostText s h → (p : List ℕ) → Port p → Server (s ++ 58 ∷ p) (ntp_host h (Some (value_from 0 p)))
host_port (hostname_text s k) p q = plain_port s (hostname_plain s k) p q
host_port (ipv4_text s k) p q = plain_port s (four_plain s k) p q
host_port (ipv6_text s k) p q = rw (append_assoc s (93 ∷ []) (58 ∷ p)) (bracket_port s k p q)

pub hostport_read : {t h : List ℕ} {n : Option ℕ} → HostportText t h n → Server t (ntp_host h n)
hostport_read (without_port s h k) = host_alone k
hostport_read (with_port s h p k e) = host_port k p (of_port p e)

pub traceable_read : Server (word "/traceable/") ntp_traceable
unfolding ntp_of same
traceable_read = record { well = utf8_all_ascii (word "/traceable/") refl; read = λ w q. record { made = _; is = refl; tells = refl } }
