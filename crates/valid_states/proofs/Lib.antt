mod BelowLaws
