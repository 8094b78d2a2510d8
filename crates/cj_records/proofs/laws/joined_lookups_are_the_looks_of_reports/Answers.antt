use Rattle.cj_records.proofs.Showing.{joined_looks}
use Rattle.cj_records.proofs.laws.joined_lookups_are_the_looks_of_reports.Goals as goal

pub returns : goal.returns
returns c = λ P size workers setups groups answers work s h. joined_looks P size workers setups groups answers work s h
