use Rattle.cfb_rules.proofs.LegalRuns.{full_first, medium_blamed, calm_medium, room_unblamed, unblamed_calm}
use Rattle.cfb_rules.proofs.laws.refusals_have_causes.Goals as goal

pub returns-clause-first : goal.returns-clause-first
returns-clause-first g c = full_first g.S.Seen.seen g.S.Seen.promised

pub returns-clause-counted : goal.returns-clause-counted
returns-clause-counted g c = medium_blamed g.S.Seen.seen g.S.Seen.promised

pub returns-clause-calm : goal.returns-clause-calm
returns-clause-calm g c = calm_medium g.S.Seen.seen g.S.Seen.promised

pub returns-clause-unblamed : goal.returns-clause-unblamed
returns-clause-unblamed g c = unblamed_calm g.S.Seen.seen g.S.Seen.promised

pub returns-clause-room : goal.returns-clause-room
returns-clause-room g c = room_unblamed g.S.Seen.seen g.S.Seen.promised
