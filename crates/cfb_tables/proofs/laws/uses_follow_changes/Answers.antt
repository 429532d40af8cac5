use Rattle.cfb_tables.proofs.UseLemmas.{uses-kept, nothing-loose, use-changes-follow, taking-changes, freeing-changes, taken-takes, given-back-frees}
use Rattle.cfb_tables.proofs.laws.uses_follow_changes.Goals as goal

pub returns-clause-kept : goal.returns-clause-kept
returns-clause-kept c = uses-kept

pub returns-clause-nothing_loose : goal.returns-clause-nothing_loose
returns-clause-nothing_loose c = nothing-loose

pub returns-clause-follow : goal.returns-clause-follow
returns-clause-follow c = use-changes-follow

pub returns-clause-taking : goal.returns-clause-taking
returns-clause-taking c = taking-changes

pub returns-clause-freeing : goal.returns-clause-freeing
returns-clause-freeing c = freeing-changes

pub returns-clause-taken : goal.returns-clause-taken
returns-clause-taken c = taken-takes

pub returns-clause-given_back : goal.returns-clause-given_back
returns-clause-given_back c = given-back-frees
