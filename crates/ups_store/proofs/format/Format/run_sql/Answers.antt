use Rattle.std.proofs.Common.{◌≡◌, ◌⊎◌, inl, inr, sym, ap}
use Rattle.ups_store.specs.Format.{sql_of, run_sql}
use Rattle.ups_store.specs.declared.format.Format.{Format}
use Rattle.ups_store.specs.declared.format.Format.TheVariants.{Second, Third, Exchanged}
use Rattle.ups_store.proofs.format.Format.run_sql.Goals as goal

pub returns-in-First : goal.returns-in-First
unfolding sql_of
returns-in-First c = ap run_sql (sym c.in-First.is)

same : (format : Format) → (format ≡ Second) ⊎ ((format ≡ Third) ⊎ (format ≡ Exchanged)) → run_sql Second ≡ run_sql format
unfolding sql_of
same format (inl is) = ap run_sql (sym is)
same format (inr (inl is)) = ap run_sql (sym is)
same format (inr (inr is)) = ap run_sql (sym is)

pub returns-in-Second : goal.returns-in-Second
unfolding sql_of
returns-in-Second c = same c.args.self c.in-Second.is
