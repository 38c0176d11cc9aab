-- Breakpoints at odd addresses (02, h), over any session, whatever is lent and whatever would be answered. Serves no proof.
use Rattle.std.specs.Prelude.{◌%◌, true, false, List, [], ◌≡◌, Ok}
use Rattle.wire.specs.Outcomes.{Answer}
use Rattle.call_fpb.specs.declared.FpbCall.{FpbCall}
use Rattle.session_rules.specs.declared.Refusal.TheVariants as R
use Rattle.session_calls.specs.Calls.{breakpoint}
use Rattle.session_calls.specs.Session.{Standing, Lent, refused, called, checked}
use Rattle.session_calls.specs.declared.SessionCall.TheVariants as S

module _ (s : Standing) (c : FpbCall) (l : Lent) (answers : List Answer) where
  -- Align: nothing is sent, nothing changes, and the session is open as before
  odd_refused : s.is_open ≡ true → breakpoint c % 2 ≡ 1
      → called s (S.Fpb c) l answers ≡ record { calls = []; ending = refused R.Align; lent = l; after = s }
  odd_refused o odd = simp (o, odd)

  -- a closed session says NoSession, whatever the address
  closed_first : s.is_open ≡ false
      → called s (S.Fpb c) l answers ≡ record { calls = []; ending = refused R.NoSession; lent = l; after = s }
  closed_first o = simp o

  -- an even address, of any halfword, is the engine's call
  even_passes : s.is_open ≡ true → breakpoint c % 2 ≡ 0 → called s (S.Fpb c) l answers ≡ checked (Ok tt) s (S.Fpb c) l answers
  even_passes o even = simp (o, even)
