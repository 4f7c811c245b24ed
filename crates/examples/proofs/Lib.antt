mod NeverShown
