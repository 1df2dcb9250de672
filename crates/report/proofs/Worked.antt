-- The worked text has the report that specs/Worked.antt says. Its values are of bytes below 128 and short, so that length and form are settled by
-- a law and only the rules are computed. Assumes nothing.
use Prim.Native.Nat.{ℕ}
use mathlib.Core.Path.{◌≡◌, refl, ap, ◌∙◌}
use mathlib.Core.List.{List, [], ◌∷◌, ◌++◌}
use mathlib.Core.Bool.{true}
use Rattle.text.specs.Find.{before, through_last}
use Rattle.text.specs.Word.{word, same, ends_in}
use Rattle.text.specs.Place.{bytes_at}
use Rattle.abnf.specs.Rule.{nothing, range, ◌or◌, ◌then◌, times, upto}
use Rattle.number.specs.Decimal.{all_digits, value_from, digits_of, number_of, digits_in, decimal}
use Rattle.number.specs.Hex.{hex_digit, hex_capital}
use Rattle.eui64.specs.Eui64.{cut_at_each, high_digit, segment_of, segments_of, eui64_of, segments_text, eui64_text}
use Rattle.ipaddr.specs.Address.{hexdig, dec_octet, ipv4address, h16, h16colon, double_colon, ls32, ipv6address, ip_address}
use Rattle.meaning.specs.Domain.{bare, bare_read, bare_text}
use Rattle.meaning.specs.ReferenceClock.{host_of, ntp_of, version_of, gmid_of, domain_of, server_of, ptp_of, clock_of}
use Rattle.meaning.specs.MediaClock.{rate_of, offset_of, direct_of, media_clock_of, source_of}
use Rattle.meaning.specs.Meaning.{ref_meaning, media_meaning}
use Rattle.meaning.specs.Text.{ref_meaning_text, reference_clock_text, source_meaning_text, media_clock_source_text}
use Rattle.meaning.proofs.Rows.{short, ref_plain, media_plain}
use Rattle.report.specs.Lines.{without_cr, ended_from, open_from, last_line, lines_of}
use Rattle.report.specs.Reply.{Reply, reply, reference_clock_reply, media_clock_source_reply, no_reply, ts_refclk_reply, mediaclk_reply, reply_to}
use Rattle.report.specs.Report.{printed, totals, totals_of_one, ◌plus◌, totals_of, totals_text, report}
use Rattle.report.specs.Worked.{worked_text, Worked}
use Rattle.report.specs.declared.Kind.TheVariants.{Accepted, Refused, Other}

module _ (v : List ℕ) (h : short v ≡ true) where
  ref_reply : ts_refclk_reply v ≡ reference_clock_reply v (clock_of bare v)
  unfolding ts_refclk_reply
  ref_reply = rw (ref_plain v h)

  media_reply : mediaclk_reply v ≡ media_clock_source_reply v (source_of v)
  unfolding mediaclk_reply
  media_reply = rw (media_plain v h)

abbrev ptp : List ℕ
ptp = word "ptp=IEEE1588-2008:00-1b-c5-ff-fe-00-0a-01:037"

abbrev ptp_line : List ℕ
ptp_line = word "a=ts-refclk:" ++ ptp

ptp_reply : reply_to ptp_line ≡ reply Accepted (word "ok ptp=IEEE1588-2008:00-1B-C5-FF-FE-00-0A-01:37")
unfolding reply_to clock_of ptp_of version_of server_of gmid_of domain_of bare_read reference_clock_text ref_meaning_text ref_meaning bare_text before same bytes_at
    number_of digits_of all_digits value_from decimal digits_in hex_digit hex_capital eui64_of segments_of segment_of high_digit cut_at_each eui64_text segments_text
ptp_reply = ref_reply ptp refl

abbrev direct_line : List ℕ
direct_line = word "a=mediaclk:direct=+0 "

direct_reply : reply_to direct_line ≡ reply Accepted (word "ok direct=0")
unfolding reply_to source_of media_clock_of direct_of offset_of rate_of media_clock_source_text source_meaning_text media_meaning before same number_of digits_of
    all_digits value_from decimal digits_in
direct_reply = media_reply (word "direct=+0 ") refl

abbrev other_line : List ℕ
other_line = word "s=demo"

other_reply : reply_to other_line ≡ reply Other (word "--")
unfolding reply_to same
other_reply = refl

abbrev ntp_line : List ℕ
ntp_line = word "a=ts-refclk:ntp=:80"

ntp_reply : reply_to ntp_line ≡ reply Refused (word "no 5 4 0")
unfolding reply_to clock_of ntp_of host_of no_reply through_last same decimal digits_in ip_address ipv6address ipv4address ls32 double_colon h16colon h16
    dec_octet hexdig nothing range ◌or◌ ◌then◌ times upto
ntp_reply = ref_reply (word "ntp=:80") refl

four_lines : lines_of worked_text ≡ ptp_line ∷ direct_line ∷ other_line ∷ ntp_line ∷ []
unfolding lines_of ended_from open_from last_line without_cr ends_in
four_lines = refl

-- the report of four lines whose replies are known
four : (a b c d : List ℕ) (p q r s : Reply) → reply_to a ≡ p → reply_to b ≡ q → reply_to c ≡ r → reply_to d ≡ s
    → printed (a ∷ b ∷ c ∷ d ∷ []) ++ totals_text (totals_of (a ∷ b ∷ c ∷ d ∷ []))
    ≡ (p.says ++ (q.says ++ (r.says ++ (s.says ++ []))))
    ++ totals_text (totals_of_one p.kind plus (totals_of_one q.kind plus (totals_of_one r.kind plus (totals_of_one s.kind plus totals 0 0 0 0 0))))
unfolding printed totals_of
four a b c d p q r s e f g h = rw (e, f, g, h)

pub worked : Worked
unfolding report totals_text decimal digits_in
worked =
    ap (λ (ls : List (List ℕ)). printed ls ++ totals_text (totals_of ls)) four_lines
    ∙ four ptp_line direct_line other_line ntp_line
    (reply Accepted (word "ok ptp=IEEE1588-2008:00-1B-C5-FF-FE-00-0A-01:37")) (reply Accepted (word "ok direct=0"))
    (reply Other (word "--")) (reply Refused (word "no 5 4 0"))
    ptp_reply direct_reply other_reply ntp_reply
