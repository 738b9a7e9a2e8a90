use Rattle.gr_dimacs.specs.Canonical.{canonical_text}
use Rattle.gr_dimacs.specs.Tokens.{tokens_of, ending_of}
use Rattle.gr_dimacs.proofs.Header.{spells-no-fault}
use Rattle.gr_dimacs.proofs.Prefix.{spells-room}
use Rattle.gr_dimacs.proofs.RoundTrip.{canonical-spells}
use Rattle.gr_dimacs.proofs.laws.canonical_is_faultless.Goals as goal

pub returns : goal.returns
returns c = λ limits f bounded within shorter.
    let text = canonical_text f in
    spells-no-fault (tokens_of limits.bytes text) limits (ending_of limits.bytes text) f
    (spells-room text limits.bytes f shorter (canonical-spells f bounded)) within
