-- A promise on what is shown of an answer allows one answer.
-- Assumes nothing.
use mathlib.Core.Path.{◌≡◌, refl}
use Rattle.std.specs.Prelude.{Result}
use Rattle.wire.specs.Table.{Outcome}
use Rattle.wire.specs.declared.refusal.Refused.{Refused}
use Rattle.wire.specs.declared.units.ByteOffset.{ByteOffset}
use Rattle.wire.proofs.Answers.{place, one_answer}
use Rattle.layout.specs.Shown.{shown_scan}
use Rattle.layout.specs.Scan.{Scanned}
use Rattle.layout.specs.declared.scan.Scanned.{Scanned as Answer}

pub scan_one : (o : Outcome Scanned) (r r' : Result Answer (Refused ByteOffset)) → shown_scan r ≡ o → shown_scan r' ≡ o → r ≡ r'
scan_one = one_answer _ _ (λ x. record { layout = x.layout; long_counts = x.long }) place (λ v. refl) (λ p. refl)
