-- An NTP host: what the reader makes of an address that stands alone, and of a host with a port as it is written. Assumes nothing.
use Rattle.std.specs.Prelude.{Some, None, Ok}
use Prim.Native.Nat.{ℕ, suc, ◌+◌, ◌-◌, ◌≤◌, ◌<◌}
use mathlib.Core.Path.{◌≡◌, refl, sym, ap, ◌∙◌}
use mathlib.Core.List.{List, [], ◌∷◌, ◌++◌, append_assoc}
use mathlib.Core.Bool.{true, false, cond, ◌&&◌, not}
use native.Mathlib.Omega.{arith}
use native.Mathlib.Numerals.{add-one}
use lib.Dec.{ltb}
use lib.ListN.{length, take, drop, length-append}
use lib.Seq.{take_at, drop_at, take-append-le, drop-append-le, drop-append-add, drop-drop}
use borrow.Author.Tests.{ne_eqb, lt-ltb, ltb-true, ltb-false}
use Rattle.text.specs.Find.{before, before_pair, through_last}
use Rattle.text.specs.Word.{word, same, starts}
use Rattle.text.specs.Place.{place}
use Rattle.text.proofs.Ascii.{ascii, ascii_cons}
use Rattle.text.proofs.Bools.{by_bool, clash}
use Rattle.text.proofs.Cuts.{same_eq, before_le, cut_first, drop_join, last_join, free_last, pair_join, pair_join_le}
use Rattle.abnf.proofs.Free.{All, none, more}
use Rattle.abnf.proofs.Sizes.{count_of, count_append, count_none}
use Rattle.number.specs.Decimal.{decimal}
use Rattle.number.proofs.Written.{number_back_lem, number_not, decimal_free, decimal_ascii}
use Rattle.utf8.specs.Utf8.{utf8_of}
use Rattle.utf8.proofs.Text.{utf8_ascii, utf8_append, utf8_all_ascii}
use Rattle.ipaddr.specs.Address.{ip_address}
use Rattle.ipaddr.proofs.Fits.{address_byte, address_lacks, address_bytes, address_plain, address_some, one_colon}
use Rattle.clock.specs.Refusal.{refusal}
use Rattle.clock.specs.declared.NtpServerAddr.TheVariants.{HostPort}
use Rattle.meaning.specs.Answer.{refuse, ◌>>=◌}
use Rattle.meaning.specs.ReferenceClock.{port_of, address_of, bracket_of, host_of, ntp_of}
use Rattle.meaning.specs.Meaning.{ntp_host, ntp_means}
use Rattle.meaning.specs.Text.{has_colon, host_text}
use Rattle.meaning.proofs.Told.{starts_cut, bytes_front}

-- a host that can stand before ":" and a port
pub record Host (h : List ℕ) : Type 0 where
  pub some_bytes : 0 < length h
  pub no_bracket : starts (word "[") h ≡ false

-- what stands behind it does not change its first byte
pub first_byte : (h y : List ℕ) → 0 < length h → starts (word "[") (h ++ y) ≡ starts (word "[") h
first_byte h y l = ap (λ (x : List ℕ). same x (word "[")) (take-append-le 1 h y (omega arith))

-- an address has none of the bytes that mark something else
module _ (h : List ℕ) (ip : ip_address h ≡ true) where
  not_in : (c : ℕ) (x y : List ℕ) → address_byte c ≡ false → x ++ c ∷ y ≡ h → ◌≡◌ {A = ℕ} 0 1
  not_in c x y f e = cc ((address_lacks c f).free x y, ap ip_address e)

  pub address_host : Host h
  unfolding address_byte
  address_host =
      record {
        some_bytes = address_some h ip;
        no_bracket = by_bool (starts (word "[") h) (λ e. clash (not_in 91 [] (drop 1 h) refl (starts_cut (word "[") h e))) (λ e. e);
      }

  pub no_close : before 93 h ≡ length h
  unfolding address_byte
  no_close =
      let i = before 93 h in
      by_bool (ltb i (length h))
      (λ e. clash (not_in 93 (take i h) (drop (suc i) h) refl (cut_first 93 h (ltb-true i (length h) e))))
      (λ e. omega (arith, before_le 93 h, ltb-false i (length h) e))

  pub address_alone : ntp_of 4 h ≡ Ok (HostPort (place 4 (length h)) None)
  unfolding ntp_of address_byte
  address_alone =
      let w : same h (word "/traceable/") ≡ false =
      by_bool (same h (word "/traceable/"))
      (λ e. clash (not_in 47 [] (word "traceable/") refl (sym (same_eq h (word "/traceable/") e)))) (λ e. e) in
      simp (ne_eqb (length h) 0 (λ e. omega (arith, address_some h ip)), w, ip)

  pub address_form : utf8_of h ≡ (Ok tt)
  address_form = utf8_all_ascii h (go h (address_bytes h ip))
    where
      go : (s : List ℕ) → All address_byte s → ascii s ≡ true
      go [] none = refl
      go (b ∷ s) (more e r) = ascii_cons b s (omega (arith, (address_plain b e).high)) (go s r)

-- a host with a port, written
module _ (h : List ℕ) (n : ℕ) where
  pub text_length_lem : length (host_text h (Some n)) ≤ length h + (length (decimal n) + 3)
  text_length_lem =
      by_bool (has_colon h) (λ e. simp (e, length-append) (omega arith)) (λ e. simp (e, length-append) (omega arith))

  -- in brackets: what stands behind the "["
  abbrev inner : List ℕ
  inner = h ++ 93 ∷ 58 ∷ decimal n

  module _ (le : n ≤ 65535) where
    pub text_form : utf8_of h ≡ (Ok tt) → utf8_of (host_text h (Some n)) ≡ (Ok tt)
    text_form w =
        let d : utf8_of (decimal n) ≡ (Ok tt) = utf8_all_ascii (decimal n) (decimal_ascii n (omega arith)) in
        let p : utf8_of (58 ∷ decimal n) ≡ (Ok tt) = utf8_ascii 58 (decimal n) (omega arith) d in
        let i : utf8_of inner ≡ (Ok tt) = utf8_append h (93 ∷ 58 ∷ decimal n) w (utf8_ascii 93 (58 ∷ decimal n) (omega arith) p) in
        by_bool (has_colon h) (λ e. simp e (utf8_ascii 91 inner (omega arith) i)) (λ e. simp e (utf8_append h (58 ∷ decimal n) w p))

    port_free : through_last 58 (decimal n) ≡ 0
    port_free = decimal_free 58 n refl (omega arith)

    -- a host without a colon: the one colon is the last one, and is in no address
    plain_back : Host h → has_colon h ≡ false → ntp_of 4 (h ++ 58 ∷ decimal n) ≡ Ok (HostPort (place 4 (length h)) (Some n))
    unfolding ntp_of host_of port_of count_of through_last
    plain_back g e =
        let t = h ++ 58 ∷ decimal n in
        let l : length t ≡ length h + suc (length (decimal n)) = length-append h (58 ∷ decimal n) in
        let f : through_last 58 h ≡ 0 = free_last 58 h (omega (arith, before_le 58 h, ltb-false (before 58 h) (length h) e)) in
        let j : through_last 58 t ≡ suc (length h) = last_join 58 h (decimal n) port_free in
        let c : count_of 58 t ≡ 1 = omega (arith, count_append 58 h (58 ∷ decimal n), count_none 58 h f, count_none 58 (decimal n) port_free) in
        let w : same t (word "/traceable/") ≡ false =
        by_bool (same t (word "/traceable/"))
        (λ k. absurd (omega (arith, ap (through_last 58) (same_eq t (word "/traceable/") k)))) (λ k. k) in
        let d : drop (suc (length h)) t ≡ decimal n = rw add-one at (drop_join h 58 (decimal n) (length h) refl) in
        let o : suc (length h) - 1 ≡ length h = omega arith in
        simp (
          ne_eqb (length t) 0 (λ z. omega arith),
          w,
          one_colon t c,
          first_byte h (58 ∷ decimal n) g.some_bytes,
          g.no_bracket,
          j,
          ne_eqb (suc (length h)) 0 (λ z. omega arith),
          ne_eqb (suc (length h)) 1 (λ z. omega (arith, g.some_bytes)),
          d,
          ← number_back_lem 65535 n le (omega arith),
          o,
        )

    -- in brackets, where the first "]:" is the last one
    at_joint : before_pair 93 58 inner ≡ length h → bracket_of 4 (91 ∷ inner) ≡ address_of (refusal 4 4 (length (91 ∷ inner))) 5 h (Some n)
    unfolding bracket_of port_of
    at_joint j =
        simp (
          j,
          lt-ltb (length h) (length inner) (omega (arith, length-append h (93 ∷ 58 ∷ decimal n))),
          drop-append-add h (93 ∷ 58 ∷ decimal n) 2,
          ← number_back_lem 65535 n le (omega arith),
          take_at h (93 ∷ 58 ∷ decimal n) (length h) refl,
        )

    -- an earlier one has no number behind it
    before_joint : before_pair 93 58 inner < length h → bracket_of 4 (91 ∷ inner) ≡ refuse 4 4 (length (91 ∷ inner))
    unfolding bracket_of port_of
    before_joint l =
        let i = before_pair 93 58 inner in
        let x = drop (i + 2) (h ++ 93 ∷ []) in
        let d : drop (i + 2) inner ≡ x ++ 58 ∷ decimal n =
        ap (drop (i + 2)) (sym (append_assoc h (93 ∷ []) (58 ∷ decimal n)))
        ∙ drop-append-le (i + 2) (h ++ 93 ∷ []) (58 ∷ decimal n) (omega (arith, length-append h (93 ∷ []))) in
        simp (
          lt-ltb i (length inner) (omega (arith, length-append h (93 ∷ 58 ∷ decimal n))),
          d,
          ← number_not 65535 58 x (decimal n) refl (λ e. omega arith),
        )

    bracket_back : ntp_of 4 (91 ∷ inner)
        ≡ cond (ip_address h) (Ok (HostPort (place 5 (length h)) (Some n))) (refuse 4 4 (length (91 ∷ inner)))
    unfolding ntp_of same address_of address_byte
    bracket_back =
        let i = before_pair 93 58 inner in
        simp (ne_eqb (length (91 ∷ inner)) 0 (λ e. omega arith), (address_lacks 91 refl).free [] inner)
        (by_bool (ltb i (length h))
        (λ e.
        let l = ltb-true i (length h) e in
        by_bool (ip_address h) (λ ip. absurd (omega (arith, pair_join 93 58 h (decimal n) (no_close h ip)))) (λ ip. simp ip (before_joint l)))
        (λ e. at_joint (omega (arith, pair_join_le 93 58 h (decimal n), ltb-false i (length h) e))))

    pub text_back : Host h → (w : List ℕ) → drop 4 w ≡ host_text h (Some n)
        → (ntp_of 4 (host_text h (Some n)) >>= λ b. Ok (ntp_means w b))
        ≡ cond (has_colon h && not (ip_address h)) (refuse 4 4 (length (host_text h (Some n)))) (Ok (ntp_host h (Some n)))
    text_back g w q =
        by_bool (has_colon h)
        (λ e.
        let d : drop 5 w ≡ inner = sym (drop-drop 1 4 w) ∙ ap (drop 1) (simp e at q) in
        by_bool (ip_address h)
        (λ ip. simp (e, bracket_back, ip, bytes_front w 5 h (93 ∷ 58 ∷ decimal n) d))
        (λ ip. simp (e, bracket_back, ip)))
        (λ e. simp (e, plain_back g e, bytes_front w 4 h (58 ∷ decimal n) (simp e at q)))

    last_colon : through_last 58 inner ≡ suc (suc (length h))
    last_colon =
        ap (through_last 58) (sym (append_assoc h (93 ∷ []) (58 ∷ decimal n)))
        ∙ last_join 58 (h ++ 93 ∷ []) (decimal n) port_free
        ∙ omega (arith, length-append h (93 ∷ []))

-- a text in brackets is that of one host and one port: it is cut at its last colon
pub one_host : (h g : List ℕ) (n k : ℕ) → n ≤ 65535 → k ≤ 65535 → has_colon h ≡ true → has_colon g ≡ true
    → host_text h (Some n) ≡ host_text g (Some k) → ntp_host h (Some n) ≡ ntp_host g (Some k)
one_host h g n k ln lk ch cg t =
    let e : inner h n ≡ inner g k = ap (drop 1) (simp (ch, cg) at t) in
    let l : length g ≡ length h = omega (arith, last_colon h n ln, last_colon g k lk, ap (through_last 58) e) in
    let a : h ≡ g =
    sym (take_at h (93 ∷ 58 ∷ decimal n) (length h) refl)
    ∙ ap (take (length h)) e
    ∙ take_at g (93 ∷ 58 ∷ decimal k) (length h) l in
    let b : 93 ∷ 58 ∷ decimal n ≡ 93 ∷ 58 ∷ decimal k =
    sym (drop_at h (93 ∷ 58 ∷ decimal n) (length h) refl)
    ∙ ap (drop (length h)) e
    ∙ drop_at g (93 ∷ 58 ∷ decimal k) (length h) l in
    cc (number_back_lem 65535 n ln (omega arith), number_back_lem 65535 k lk (omega arith))
